-- Problems that are the same.
use Rattle.std.proofs.Common.{◌≡◌, ◌∙◌, ℕ, List, ap}
use Rattle.esr_cert.specs.Problem.{Chain, Problem}

pub same_problem : (p q : Problem) → p.updates ≡ q.updates → p.before ≡ q.before → p.chains ≡ q.chains → p.must ≡ q.must → p ≡ q
same_problem p q u b c m =
    ap (λ (us : List ℕ). record p { updates = us }) u
    ∙ (ap (λ (bs : List (ℕ × ℕ)). record { updates = q.updates; before = bs; chains = p.chains; must = p.must }) b
    ∙ (ap (λ (cs : List Chain). record { updates = q.updates; before = q.before; chains = cs; must = p.must }) c
    ∙ ap (λ (ms : List ℕ). record { updates = q.updates; before = q.before; chains = q.chains; must = ms }) m))
