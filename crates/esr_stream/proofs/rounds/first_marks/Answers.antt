use Rattle.std.proofs.Common.{◌≡◌, ◌+◌, ◌<◌, ◌∙◌, ◌++◌, ◌∷◌, [], ℕ, zero, suc, Bool, List, refl, sym, ap, arith, length, inl, inr, nat_lt}
use Rattle.std.proofs.lemmas.Bool.{cases_eq}
use Rattle.std.proofs.lemmas.List.{length_push}
use Rattle.esr_bound.specs.Amounts.{mark_at}
use Rattle.esr_stream.proofs.rounds.first_marks.Goals as goal

at_pushed : (marks : List Bool) (b : Bool) → mark_at (marks ++ b ∷ []) (length marks) ≡ b
at_pushed [] b = refl
at_pushed (m ∷ marks) b = at_pushed marks b

before_pushed : (marks : List Bool) (b : Bool) (i : ℕ) → i < length marks → mark_at (marks ++ b ∷ []) i ≡ mark_at marks i
before_pushed [] b i l = absurd (omega arith)
before_pushed (m ∷ marks) b zero l = refl
before_pushed (m ∷ marks) b (suc i) l = before_pushed marks b i (omega arith)

pub loop-i-preserved : goal.loop-i-preserved
loop-i-preserved c =
    let marks = c.loop-i.marks.items in
    let b = nat_lt c.loop-i.i c.args.set_count in
    let len : length marks ≡ c.loop-i.i = c.loop-i.invariant.len in
    record {
      len = ap (λ (l : List Bool). length l) c.in_ok-push.ensures.items ∙ length_push marks b ∙ ap (λ n. n + 1) len;
      marks = λ i l. ap (λ bs. mark_at bs i) c.in_ok-push.ensures.items ∙ elim (cases_eq i c.loop-i.i) [
        | inl e ↦ ap (mark_at (marks ++ b ∷ [])) (e ∙ sym len) ∙ at_pushed marks b ∙ ap (λ j. nat_lt j c.args.set_count) (sym e)
        | inr ne ↦ let m : i < c.loop-i.i = omega (arith, l, ne) in before_pushed marks b i (omega (arith, m, len)) ∙ c.loop-i.invariant.marks i m
      ];
    }
