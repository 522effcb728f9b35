-- Drafts as contracts see them.
use Rattle.std.specs.Prelude.{map}
use Rattle.esr_cert.specs.Problem as spec
use Rattle.esr_cert.specs.declared.draft.ChainDraft.{ChainDraft}
use Rattle.esr_cert.specs.declared.draft.ProblemDraft.{ProblemDraft}

abbrev pub drafted_chain : ChainDraft → spec.Chain
drafted_chain chain = record { item = chain.item; writers = chain.writers.items; costs = chain.costs.items }

abbrev pub drafted_problem : ProblemDraft → spec.Problem
drafted_problem p =
    record {
      updates = p.updates.items;
      before = p.before.items;
      chains = map drafted_chain p.chains.items;
      must = p.must.items;
    }
