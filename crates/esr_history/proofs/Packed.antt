-- The packed entries of a log keep their meaning as its list of long entries grows.
use Rattle.std.proofs.Common.{◌≡◌, List, [], ◌∷◌, ◌++◌, map, All, refl, ap}
use Rattle.std.proofs.lemmas.List.{get_or_append_left}
use Rattle.std.proofs.lemmas.List.Elements.{All-head, All-tail}
use Rattle.esr_history.specs.Events.{Entry}
use Rattle.esr_history.specs.declared.packed_entry.PackedEntry.{PackedEntry}
use Rattle.esr_history.specs.declared.packed_entry.PackedEntry.TheVariants.{Long}
use Rattle.esr_history.specs.PackedEntry.{unpacked, IsWithin, no_entry}

-- the entry is unchanged by one more in the list
entry_stays : (long : List Entry) (e : Entry) (s : PackedEntry) → IsWithin long s → unpacked (long ++ e ∷ []) s ≡ unpacked long s
entry_stays long e (Long place) w = get_or_append_left long (e ∷ []) no_entry place w
entry_stays long e _ w = refl

pub entries_stay : (long : List Entry) (e : Entry) (packed_entries : List PackedEntry) → All (IsWithin long) packed_entries → map (unpacked (long ++ e ∷ [])) packed_entries ≡ map (unpacked long) packed_entries
entries_stay long e [] all = refl
entries_stay long e (s ∷ packed_entries) all = rw (entry_stays long e s (All-head (IsWithin long) s packed_entries all)) (ap (λ es. unpacked long s ∷ es) (entries_stay long e packed_entries (All-tail (IsWithin long) s packed_entries all)))
