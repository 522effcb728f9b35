use Rattle.std.proofs.Common.{◌≡◌, [], ◌∷◌, ◌++◌, length, map, ap, ◌∙◌, arith}
use Rattle.std.proofs.lemmas.Grind.{common_steps}
use Rattle.std.proofs.lemmas.List.{map-append, get_or_push}
use Rattle.std.proofs.lemmas.List.Elements.{All-push}
use Rattle.esr_history.specs.declared.packed_entry.PackedEntry.TheVariants.{Long}
use Rattle.esr_history.specs.Logged.{Logged}
use Rattle.esr_history.specs.PackedEntry.{unpacked, no_entry, IsWithin}
use Rattle.esr_history.proofs.Packed.{entries_stay}
use Rattle.esr_history.proofs.log.Log.push.Goals as goal

pub returns-in_default-clause-entries : goal.returns-in_default-clause-entries
returns-in_default-clause-entries c =
    let long = c.self.inside.long.items in
    let list = c.self.inside.list.items in
    let e = c.args.entry in
    let place = c.len-place.result in
    let at : length long ≡ place = omega (arith, c.len-place.ensures) in
    let last : unpacked (long ++ e ∷ []) (Long place) ≡ e = get_or_push long e no_entry place at in
    rw c.push_reserved-in_default.ensures.items (rw c.push_reserved.ensures.items (
    map-append (unpacked (long ++ e ∷ [])) list (Long place ∷ [])
    ∙ (ap (λ es. es ++ unpacked (long ++ e ∷ []) (Long place) ∷ []) (entries_stay long e list c.self.invariant)
    ∙ (ap (λ x. map (unpacked long) list ++ x ∷ []) last
    ∙ ap (λ (v : Logged). v.entries ++ e ∷ []) c.self.view_is))))

pub invariant_of-self-2 : goal.invariant_of-self-2
invariant_of-self-2 c =
    let long = c.self.inside.long.items in
    rw c.push_reserved-2.ensures.items (All-push (IsWithin long) c.self.inside.list.items c.in-Some.packed_entry c.self.invariant (c.in-Some.ensures long).1)

pub returns-clause-entries : goal.returns-clause-entries
returns-clause-entries c = grind (arith, common_steps)
