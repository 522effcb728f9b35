-- The machine that is made of the items' values.
use Rattle.std.proofs.Common.{◌≡◌, ℕ, ℤ, List, [], ◌∷◌, map, refl, ap, arith}
use Rattle.esr_items.specs.declared.store.Versions.{Versions}
use Rattle.esr_items.specs.Values.{both_versions}
use Rattle.esr_history.specs.Machine.{Schedule}
use Rattle.esr_script.specs.declared.stage.Stage.{Stage}
use Rattle.esr_script.specs.declared.stage.Stage.TheVariants.{Open}
use Rattle.esr_script.specs.Items.{DeclaredItems}
use Rattle.esr_script.specs.Stages.{history_of}

committed_of_both : (vs : List ℤ) → map (λ (w : Versions). w.committed) (map both_versions vs) ≡ vs
committed_of_both [] = refl
committed_of_both (v ∷ vs) = ap (λ ws. v ∷ ws) (committed_of_both vs)

-- it opens with them, under the weights
pub opens : (stage : Stage) (items : DeclaredItems) (store : List Versions) (metric : List ℕ) (machine : Schedule)
    → stage ≡ Open items → store ≡ map both_versions items.values → metric ≡ items.weights
    → machine ≡ record { opening = map (λ (w : Versions). w.committed) store; weights = metric; entries = [] } → machine ≡ history_of stage
opens stage items store metric machine is made measured new =
    grind (arith, map, committed_of_both items.values)
