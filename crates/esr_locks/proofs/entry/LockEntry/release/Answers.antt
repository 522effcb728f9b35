use Rattle.std.proofs.Common.{◌≡◌, ◌∙◌, ap, subst, false, Option}
use Rattle.esr_history.specs.declared.event.BeginKind.{BeginKind}
use Rattle.esr_history.specs.declared.event.BeginKind.TheVariants.{Query, Update}
use Rattle.esr_locks.specs.Tables.{released_query, has_lock_unlike, has_other_lock}
use Rattle.esr_locks.proofs.Tables.{released_as_query, released_as_update}
use Rattle.esr_locks.proofs.entry.LockEntry.release.Goals as goal

pub returns-in-Some-Query : goal.returns-in-Some-Query
returns-in-Some-Query c =
    let l = c.args.self.now.locks in
    let none : has_lock_unlike c.in-Some-Query.field-0 l c.args.t.0 ≡ false = subst (λ (k : Option BeginKind). has_other_lock k l c.args.t.0 ≡ false) c.in-Some-Query.is c.requires in
    let kind : c.in-Some-Query.field-0 ≡ Query = rw c.in-Some-Query.is at c.in-Some-Query.field-0-is in
    c.release_query.ensures ∙ released_as_query c.args.t.0 l (subst (λ (k : BeginKind). has_lock_unlike k l c.args.t.0 ≡ false) kind none)

pub returns-in-Some-Update : goal.returns-in-Some-Update
returns-in-Some-Update c =
    let l = c.args.self.now.locks in
    let none : has_lock_unlike c.in-Some-Update.field-0 l c.args.t.0 ≡ false = subst (λ (k : Option BeginKind). has_other_lock k l c.args.t.0 ≡ false) c.in-Some-Update.is c.requires in
    let kind : c.in-Some-Update.field-0 ≡ Update = rw c.in-Some-Update.is at c.in-Some-Update.field-0-is in
    c.release_update.ensures ∙ released_as_update c.args.t.0 l (subst (λ (k : BeginKind). has_lock_unlike k l c.args.t.0 ≡ false) kind none)

pub returns-in-None : goal.returns-in-None
returns-in-None c = c.release_query-in-None.ensures ∙ ap (released_query c.args.t.0) c.release_update-in-None.ensures
