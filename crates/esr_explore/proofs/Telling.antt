-- The outcome of one more query.
use Rattle.std.proofs.Common.{◌≡◌, ℕ, ◌+◌, ◌<◌, List, [], ◌∷◌, ◌++◌, Option, ◌∙◌, ap, get_or, length, subst, sym, take}
use Rattle.std.proofs.lemmas.List.{take_more}
use Rattle.esr_history.specs.Machine.{Schedule}
use Rattle.esr_explore.specs.declared.query.Query.{Query}
use Rattle.esr_explore.specs.declared.run_summary.QueryInconsistency.{QueryInconsistency}
use Rattle.esr_explore.specs.Turns.{BlockProgressView}
use Rattle.esr_explore.specs.Summaries.{AreInconsistencies, IsInconsistency, txn_id_of}

pub one_more : (h : Schedule) (rs : List BlockProgressView) (queries : List Query) (inconsistencies : List (Option QueryInconsistency)) (q : Query) (t : Option QueryInconsistency)
    → AreInconsistencies h rs queries inconsistencies → IsInconsistency h (txn_id_of rs q.block q.index) t → AreInconsistencies h rs (queries ++ q ∷ []) (inconsistencies ++ t ∷ [])
one_more h rs [] [] q t are is = (is, tt)
one_more h rs [] (u ∷ inconsistencies) q t are is = absurd are
one_more h rs (p ∷ queries) [] q t are is = absurd are
one_more h rs (p ∷ queries) (u ∷ inconsistencies) q t are is = (are.0, one_more h rs queries inconsistencies q t are.1 is)

-- the outcomes of the queries so far, and of the next one
pub inconsistencies_more : (h : Schedule) (rs seen : List BlockProgressView) (queries : List Query) (i : ℕ) (d : Query) (number : ℕ) (inconsistencies new : List (Option QueryInconsistency)) (t : Option QueryInconsistency)
    → i < length queries → AreInconsistencies h rs (take i queries) inconsistencies → seen ≡ rs → number ≡ txn_id_of seen (get_or queries i d).block (get_or queries i d).index
    → IsInconsistency h number t → new ≡ inconsistencies ++ t ∷ [] → AreInconsistencies h rs (take (i + 1) queries) new
inconsistencies_more h rs seen queries i d number inconsistencies new t within are seen_is number_is is new_is =
    let q : Query = get_or queries i d in
    let own : number ≡ txn_id_of rs q.block q.index = number_is ∙ ap (λ (l : List BlockProgressView). txn_id_of l q.block q.index) seen_is in
    let more : AreInconsistencies h rs (take i queries ++ q ∷ []) (inconsistencies ++ t ∷ []) =
    one_more h rs (take i queries) inconsistencies q t are (subst (λ (n : ℕ). IsInconsistency h n t) own is) in
    subst (AreInconsistencies h rs (take (i + 1) queries)) (sym new_is)
    (subst (λ (qs : List Query). AreInconsistencies h rs qs (inconsistencies ++ t ∷ [])) (sym (take_more queries i d within)) more)
