-- Labels of workqueues: their names or numbers, as the text for Graphviz has them.
use Rattle.std.specs.Prelude.{ℕ, ◌==◌, ◌&&◌, not, nat_le, cond, if◌then◌else◌, Bool, List, [], ◌++◌, length, flat_map}
use Rattle.std.specs.Prelude.{bytes_eq, codes, decimal}
use Rattle.std.specs.List.{count_by}
use Rattle.wq_dot.specs.Tooltips.{escaped}

-- `wq Q`
abbrev pub numbered : ℕ → List ℕ
numbered q = codes "wq " ++ decimal q

-- several workqueues have this name, given the names of all
abbrev pub is_shared : List (List ℕ) → List ℕ → Bool
is_shared called name = nat_le 2 (count_by (bytes_eq name) called)

-- what comes before the name of workqueue q: `wq Q ` if others have the same name
abbrev pub before_name : Bool → ℕ → List ℕ
before_name shared q = if shared then numbered q ++ codes " " else []

-- what workqueue q is called, given whether others have the same name: `wq Q` if its name is empty
abbrev pub named : Bool → ℕ → List ℕ → List ℕ
named shared q name = if length name == 0 then numbered q else before_name shared q ++ flat_map escaped name

-- what follows the label of a workqueue without a rescuer
abbrev pub rescuer_text : Bool → List ℕ
rescuer_text bare = cond bare (codes " (no rescuer)") []

-- the label of workqueue q with this name
abbrev pub label_of : List ℕ → Bool → Bool → ℕ → List ℕ
label_of name shared bare q = named shared q name ++ rescuer_text bare

-- the label is what Graphviz makes of the number
abbrev pub is_plain : List ℕ → Bool → Bool
is_plain name bare = length name == 0 && not bare

-- the label as an attribute, unless it is what Graphviz makes of the number
abbrev pub label_text : List ℕ → Bool → Bool → ℕ → List ℕ
label_text name shared bare q =
    if is_plain name bare then [] else codes "label=\"" ++ label_of name shared bare q ++ codes "\", "
