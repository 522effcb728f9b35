-- The values of the code as contracts see them: lists instead of vectors.
use Rattle.std.specs.Prelude.{ℕ, List, map, Option, Vec}
use Rattle.std.specs.declared.alloc.Global.{Global}
use Rattle.esr_base.specs.declared.numbers.TxnId.{TxnId}
use Rattle.esr_cert.specs.Problem as spec
use Rattle.esr_cert.specs.Certificate as certificates
use Rattle.esr_cert.specs.declared.problem.Chain.{Chain}
use Rattle.esr_cert.specs.declared.problem.ProblemParts.{ProblemParts}
use Rattle.esr_cert.specs.declared.certificate.Certificate.{Certificate}

abbrev pub chain_view : Chain → spec.Chain
chain_view chain = record { item = chain.item.0; writers = chain.writers.items; costs = chain.costs.items }

abbrev pub rows_of : List (Vec ℕ Global) → List (List ℕ)
rows_of rows = map (λ row. row.items) rows

abbrev pub problem_of : List TxnId → List (ℕ × ℕ) → List Chain → List ℕ → spec.Problem
problem_of updates before chains must =
    record { updates = map (λ t. t.0) updates; before = before; chains = map chain_view chains; must = must }

abbrev pub problem_of_parts : ProblemParts → spec.Problem
problem_of_parts p = problem_of p.updates.items p.before.items p.chains.items p.must.items

abbrev pub certificate_from : List ℕ → List (Vec ℕ Global) → List ℕ → List ℕ → ℕ → Option ℕ → certificates.Certificate
certificate_from set chain_flow back_flow must_flow worth augmentations =
    record {
      set = set;
      chain_flow = rows_of chain_flow;
      back_flow = back_flow;
      must_flow = must_flow;
      worth = worth;
      augmentations = augmentations;
    }

-- the certificate that a value of the code represents
abbrev pub certificate_of : Certificate → certificates.Certificate
certificate_of c =
    certificate_from c.set.items c.chain_flow.items c.back_flow.items c.must_flow.items c.worth c.augmentations
