use Rattle.esr_cert.proofs.ChainStartsLaws.{has_owner, owner_row}
use Rattle.esr_cert.proofs.chain_starts.chain_of_arc.Goals as goal

pub bounds-chain_by_arc-number : goal.bounds-chain_by_arc-number
bounds-chain_by_arc-number c = has_owner c.args._chains.now c.args._starts.now c.args.chain_by_arc.now c.args.number c.requires.chain_starts c.requires.chain_by_arc c.requires.early

pub returns-clause-bound : goal.returns-clause-bound
returns-clause-bound c = (owner_row c.args._chains.now c.args._starts.now c.args.chain_by_arc.now c.args.number c.requires.chain_starts c.requires.chain_by_arc c.requires.early c.from.result c.from.ensures).bound

pub returns-clause-begun : goal.returns-clause-begun
returns-clause-begun c = (owner_row c.args._chains.now c.args._starts.now c.args.chain_by_arc.now c.args.number c.requires.chain_starts c.requires.chain_by_arc c.requires.early c.from.result c.from.ensures).begun

pub returns-clause-last : goal.returns-clause-last
returns-clause-last c = (owner_row c.args._chains.now c.args._starts.now c.args.chain_by_arc.now c.args.number c.requires.chain_starts c.requires.chain_by_arc c.requires.early c.from.result c.from.ensures).last
