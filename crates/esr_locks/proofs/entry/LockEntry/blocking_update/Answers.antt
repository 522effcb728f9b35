use Rattle.std.proofs.Common.{◌≡◌, ◌∙◌, ℕ, arith, List, [], ◌∷◌, sym, ap, refl, not, map, length, ◌==◌, Bool, true, false, ◌&&◌, ◌||◌}
use Rattle.std.proofs.lemmas.Grind.{common_steps}
use Rattle.std.specs.List.{list_any}
use Rattle.esr_locks.specs.declared.lists.Reader.{Reader}
use Rattle.esr_locks.specs.LockEntries.{LockEntryModel}
use Rattle.esr_locks.specs.Modes.{Read, Write, conflicts}
use Rattle.esr_locks.specs.Tables.{is_reader, is_writer, blocks}
use Rattle.esr_locks.proofs.Least.{IsSmallest-extensional}
use Rattle.esr_locks.proofs.entry.LockEntry.blocking_update.Goals as goal

and_both : (a b c : Bool) → ((a && b) || (a && c)) ≡ (a && (b || c))
and_both true b c = refl
and_both false b c = refl

none_read : (readers : List Reader) (u : ℕ) → (length readers == 0) ≡ true → list_any (λ v. v == u) (map (λ r. r.update.0) readers) ≡ false
none_read [] u empty = refl
none_read (r ∷ readers) u empty = grind (arith, common_steps)

writer_alone : (a b reads writes : Bool) → reads ≡ false → (a && writes) ≡ (a && ((b && reads) || writes))
writer_alone a true reads writes none = rw none refl
writer_alone a false reads writes none = refl

pub returns-then-is_empty : goal.returns-then-is_empty
returns-then-is_empty c =
    let t = c.args.t.0 in
    let l = c.args.self.now.locks in
    let empty : (length c.self.inside.readers.items == 0) ≡ true = sym c.is_empty.ensures ∙ c.if-is_empty.true in
    IsSmallest-extensional (λ u. not (u == t) && (conflicts Write c.args.asked && is_writer l u)) (blocks c.args.asked l t) _
    (λ u. writer_alone (not (u == t)) (conflicts Read c.args.asked) (is_reader l u) (conflicts Write c.args.asked && is_writer l u)
    (sym (ap (λ (v : LockEntryModel). is_reader v.locks u) c.self.view_is) ∙ none_read c.self.inside.readers.items u empty)) c.blocking_writer.ensures

pub returns : goal.returns
returns c =
    let t = c.args.t.0 in
    let l = c.args.self.now.locks in
    let reads : ℕ → Bool = λ u. not (u == t) && (conflicts Read c.args.asked && is_reader l u) in
    let writes : ℕ → Bool = λ u. not (u == t) && (conflicts Write c.args.asked && is_writer l u) in
    IsSmallest-extensional (λ u. reads u || writes u) (blocks c.args.asked l t) _
    (λ u. and_both (not (u == t)) (conflicts Read c.args.asked && is_reader l u) (conflicts Write c.args.asked && is_writer l u))
    (c.smaller_of.ensures reads writes c.blocking_reader.ensures c.blocking_writer-2.ensures)
