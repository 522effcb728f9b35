-- The results of workers stored at the indices of their jobs.
use Rattle.std.proofs.Common.{◌≡◌, ℕ, ◌<◌, ◌≢◌, ◌⊎◌, cond, eqb, List, [], ◌∷◌, ◌++◌, map, length, get_or, set, sym, refl, ap, ◌∙◌, subst, ⊎_elim, arith, Any, Option, Some, None, IfSome, inl, inr, Result, Ok, Err, IfOk, IfErr, MatchResult, length-set, get_or-set_same, get_or-set_other, ne_eqb, false, true≢false}
use Rattle.std.proofs.lemmas.Bool.{cases_eq}
use Rattle.std.proofs.lemmas.List.{map-append}
use Rattle.std.proofs.lemmas.List.Sums.{sum_by_push}
use Rattle.esr_base.specs.declared.numbers.TxnId.{TxnId}
use Rattle.esr_history.specs.Machine.{DistanceFunction, Schedule}
use Rattle.esr_history.specs.Queries.{is_committed_query}
use Rattle.esr_audit.specs.declared.finding.Finding.{Finding}
use Rattle.esr_audit.specs.declared.finding.AuditError.{AuditError}
use Rattle.esr_audit.specs.declared.finding.AuditError.TheVariants.{NotACommittedQuery, NoMemory, WorkersOutOfRange}
use Rattle.esr_board.specs.declared.worker.Share.{Share}
use Rattle.esr_board.specs.Claims.{times, HasClaimed, count_past}
use Rattle.esr_board.specs.Shares.{IsKeptOf, AreCommitted, AreKept, IsShareOf, IsFilled, AreCorrect, query_of}
use Rattle.esr_board.proofs.Closes.{all_popped}

any_holds : (P : ℕ → Type 0) (xs : List ℕ) (a : Any P xs) → P a.1
any_holds P xs a = a.4

-- the result of a worker
pub worked_is : {T : Type 0} (keeps : Finding → T → Type 0) (d : DistanceFunction) (h : Schedule) (queries : List TxnId) (jobs : ℕ) (old new : List ℕ) (r : Result (Share T) AuditError) → old ≡ [] → length queries ≡ jobs → AreCommitted h queries
    → IfOk r (λ s. HasClaimed jobs old new (map (λ p. p.0) s.found.items)) → IfOk r (λ s. AreKept keeps d h queries jobs s.found.items) → IfOk r (λ _. 0 < count_past jobs new)
    → IfErr r (λ e. (js : List ℕ) × HasClaimed jobs old new js × (e ≡ NotACommittedQuery → Any (λ n. (n < jobs) × (is_committed_query h (query_of queries n).0 ≡ false)) js)) → IfErr r (λ e. e ≢ WorkersOutOfRange)
    → MatchResult r (IsShareOf keeps d h queries jobs new) (λ e. e ≡ NoMemory)
worked_is keeps d h queries jobs old new (Ok s) none_yet len committed has_claimed found ended err other = (subst (λ (l : List ℕ). HasClaimed jobs l new (map (λ p. p.0) s.found.items)) none_yet has_claimed, found, ended)
worked_is keeps d h queries jobs old new (Err NoMemory) none_yet len committed has_claimed found ended err other = refl
worked_is keeps d h queries jobs old new (Err WorkersOutOfRange) none_yet len committed has_claimed found ended err other = absurd (other refl)
worked_is keeps d h queries jobs old new (Err NotACommittedQuery) none_yet len committed has_claimed found ended err other =
    grind (arith, any_holds, true≢false)

module _ {T : Type 0} (keeps : Finding → T → Type 0) (d : DistanceFunction) (h : Schedule) (queries : List TxnId) (slots after : List (Option T)) (job : ℕ) (x : T) (is : after ≡ set slots job (Some x)) (fits : job < length slots) where
  same_here : get_or (set slots job (Some x)) job None ≡ Some x
  same_here = get_or-set_same slots job (Some x) None fits

  as_set : (P : List (Option T) → Type 0) → P (set slots job (Some x)) → P after
  as_set P p = subst P (sym is) p

  pub put_kept : (k : ℕ) → IsFilled slots k → IsFilled after k
  put_kept k was = as_set (λ l. IsFilled l k) (grind (arith, same_here, get_or-set_other))

  pub put_right : IsKeptOf keeps d h (query_of queries job) x → AreCorrect keeps d h queries slots → AreCorrect keeps d h queries after
  put_right here right = as_set (AreCorrect keeps d h queries) (λ k l. elim (cases_eq k job) [
    | inl e ↦ subst (λ (n : ℕ). IfSome (get_or (set slots job (Some x)) n None) (IsKeptOf keeps d h (query_of queries n))) (sym e) (subst (λ (o : Option T). IfSome o (IsKeptOf keeps d h (query_of queries job))) (sym same_here) here)
    | inr ne ↦ subst (λ (o : Option T). IfSome o (IsKeptOf keeps d h (query_of queries k))) (sym (get_or-set_other slots job k (Some x) None ne)) (right k (omega (arith, length-set slots job (Some x))))
  ])

  pub put_filled : (old new : List (ℕ × T)) (total k : ℕ) → old ≡ new ++ (job, x) ∷ [] → IsFilled slots k ⊎ (times k (map (λ p. p.0) old) ≡ total) → IsFilled after k ⊎ (times k (map (λ p. p.0) new) ≡ total)
  put_filled old new total k e so_far = as_set (λ l. IsFilled l k ⊎ (times k (map (λ (p : ℕ × T). p.0) new) ≡ total))
      (grind (arith, same_here, ⊎_elim, get_or-set_other, map, map-append, sum_by_push, cond, eqb, ne_eqb))

  pub put_share : (old new : List (ℕ × T)) → old ≡ new ++ (job, x) ∷ [] → AreKept keeps d h queries (length slots) old → AreKept keeps d h queries (length after) new
  put_share old new e a = subst (λ (n : ℕ). AreKept keeps d h queries n new) (sym (ap length is ∙ length-set slots job (Some x)))
      (all_popped (λ (p : ℕ × T). (p.0 < length slots) × IsKeptOf keeps d h (query_of queries p.0) p.1) old new (job, x) e a).0
