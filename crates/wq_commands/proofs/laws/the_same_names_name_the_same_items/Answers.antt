use Rattle.wq_commands.proofs.NamedLemmas.{items_with_names-same}
use Rattle.wq_commands.proofs.laws.the_same_names_name_the_same_items.Goals as goal

pub returns : goal.returns
returns c names words others same =
    items_with_names-same names words others (λ word. (same word).0) (λ word. (same word).1)
