-- Lines of workqueues, as they grow part by part.
use Rattle.std.proofs.Common.{◌≡◌, ◌≢◌, Bool, ℕ, ◌+◌, ◌<◌, List, [], ◌∷◌, ◌++◌, length, map, take, get_or, refl, sym, ap, ◌∙◌, append_assoc, append-nil}
use Rattle.std.specs.Prelude.{codes, flat_map}
use Rattle.std.specs.List.{range_with_len}
use Rattle.std.proofs.lemmas.List.{map-append, take_more}
use Rattle.std.proofs.lemmas.Grind.{flat_map-append}
use Rattle.wq_items.proofs.TableLemmas.{range_with_len-push}
use Rattle.wq_text.specs.LineText.{spaced}
use Rattle.wq_cert.specs.PlanText.{name_of}
use Rattle.wq_repair_command.specs.AssignmentText.{name_comment, named_line}

-- the names of items, one more at a time
words-push : (names : List (List ℕ)) (out items : List ℕ) (i : ℕ)
    → (out ++ flat_map spaced (map (name_of names) items)) ++ spaced (name_of names i) ≡ out ++ flat_map spaced (map (name_of names) (items ++ (i ∷ [])))
words-push names out items i =
    let words : List ℕ = flat_map spaced (map (name_of names) items) in
    append_assoc out words (spaced (name_of names i))
    ∙ ap (λ (ls : List ℕ). out ++ ls) (ap (λ (l : List ℕ). words ++ l) (sym (append-nil (spaced (name_of names i))))
    ∙ sym (flat_map-append spaced (map (name_of names) items) (name_of names i ∷ [])) ∙ ap (flat_map spaced) (sym (map-append (name_of names) items (i ∷ []))))

pub words-next : (names : List (List ℕ)) (out items name : List ℕ) (n i : ℕ) → n < length items → i ≡ get_or items n i → name_of names i ≡ name
    → (out ++ flat_map spaced (map (name_of names) (take n items))) ++ spaced name ≡ out ++ flat_map spaced (map (name_of names) (take (n + 1) items))
words-next names out items name n i within at is =
    ap (λ (w : List ℕ). (out ++ flat_map spaced (map (name_of names) (take n items))) ++ spaced w) (sym is) ∙ words-push names out (take n items) i
    ∙ ap (λ (l : List ℕ). out ++ flat_map spaced (map (name_of names) l)) (ap (λ (k : ℕ). take n items ++ (k ∷ [])) at ∙ sym (take_more items n i within))

-- the parts of a line
pub line-parts : (out first number words comment end : List ℕ)
    → ((((out ++ first) ++ number) ++ words) ++ comment) ++ end ≡ out ++ (first ++ ((number ++ words) ++ (comment ++ end)))
line-parts out first number words comment end =
    append_assoc (((out ++ first) ++ number) ++ words) comment end
    ∙ append_assoc ((out ++ first) ++ number) words (comment ++ end)
    ∙ append_assoc (out ++ first) number (words ++ (comment ++ end))
    ∙ append_assoc out first (number ++ (words ++ (comment ++ end)))
    ∙ ap (λ (l : List ℕ). out ++ (first ++ l)) (sym (append_assoc number words (comment ++ end)))

-- one line more
pub lines-more : (line : ℕ → List ℕ) (q : ℕ) → flat_map line (range_with_len 0 q) ++ line q ≡ flat_map line (range_with_len 0 (q + 1))
lines-more line q =
    ap (λ (l : List ℕ). flat_map line (range_with_len 0 q) ++ l) (sym (append-nil (line q)))
    ∙ sym (flat_map-append line (range_with_len 0 q) (q ∷ [])) ∙ ap (flat_map line) (sym (range_with_len-push q))

-- equal words make equal lines
pub same-line : (names : List (List ℕ)) (q : ℕ) (one other : Bool) (is js name called : List ℕ) → one ≡ other → is ≡ js → name ≡ called
    → named_line names q one is name ≡ named_line names q other js called
same-line names q one other is js name called same_bare same_items same_name = rw (same_bare, same_items, same_name) refl
