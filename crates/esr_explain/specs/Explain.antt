-- The explanation of a committed query of a history.
use Rattle.std.specs.Prelude.{ℕ, ℤ, ◌+◌, ◌-◌, ◌==◌, List, [], ◌∷◌, ◌++◌, map, not, Option, Some, None, codes, decimal, length, filter, nat_lt, slice_get, slice_index_or, if◌then◌else◌, option_map}
use Rattle.std.specs.List.{filter_map, flat_map, range_with_len}
use Rattle.std.specs.Fmt.{signed_decimal}
use Rattle.esr_base.specs.declared.numbers.ItemId.{ItemId}
use Rattle.esr_history.specs.declared.event.Event.{Event}
use Rattle.esr_history.specs.declared.event.Event.TheVariants.{Read, Write}
use Rattle.esr_history.specs.declared.event.Entry.{Entry}
use Rattle.esr_history.specs.Events.{limit_of}
use Rattle.esr_history.specs.Machine.{DistanceFunction, Schedule, accepted_in, value_distance, writer, charges_in, import_in, export_in}
use Rattle.esr_history.specs.Serial.{state}
use Rattle.esr_history.specs.Queries.{updates_committed_before, reads_by}
use Rattle.esr_order.specs.declared.accesses.Access.{Access}
use Rattle.esr_order.specs.Least.{nearest_placement, least_distance}
use Rattle.esr_order.specs.Placements.{is_among}
use Rattle.esr_replay.specs.Replays.{until}
use Rattle.esr_report.specs.Names.{name_of_transaction}
use Rattle.esr_report.specs.Lines.{line, names_line}
use Rattle.esr_explain.specs.declared.charges.OperationKind.{OperationKind}
use Rattle.esr_explain.specs.declared.charges.OperationKind.TheVariants as operation
use Rattle.esr_explain.specs.declared.charges.Conflict.{Conflict}
use Rattle.esr_explain.specs.declared.charges.Charge.{Charge}
use Rattle.esr_explain.specs.declared.reads.ComparedRead.{ComparedRead}

-- items are numbered from 0
abbrev pub name_of_item : List (List ℕ) → ℕ → List ℕ
name_of_item items x = slice_index_or items x []

-- ---- reads

-- a value read of an item, its value at the nearest placement, and their distance
abbrev pub compared_read : (ℕ → ℤ → ℤ → ℕ) → ItemId → (value nearest : ℤ) → ComparedRead
compared_read d x value nearest = record { item = x; value = value; nearest_value = nearest; distance = d x.0 value nearest }

-- the reads of q, in order, with the values that the updates us leave
abbrev pub compared_reads : DistanceFunction → Schedule → ℕ → (us : List ℕ) → List ComparedRead
compared_reads d h q us =
    map (λ o. compared_read (value_distance d h) (record { 0 = o.item }) o.value (state h us o.item)) (reads_by h q)

-- an access compared with these values of the items, or nothing if it is a write
abbrev pub compared_access : (ℕ → ℤ → ℤ → ℕ) → (values : ℕ → ℤ) → Access → List ComparedRead
compared_access d values a = if a.writes then [] else compared_read d a.item a.value (values a.item.0) ∷ []

-- the line of a read with this text for the item
abbrev pub named_read_line : (item : List ℕ) → ComparedRead → List ℕ
named_read_line item r = line (
    codes "read" ∷ item ∷ signed_decimal r.value ∷ codes "nearest" ∷ signed_decimal r.nearest_value ∷ codes "off"
    ∷ decimal r.distance ∷ []
    )

abbrev pub read_line : (items : List (List ℕ)) → ComparedRead → List ℕ
read_line items r = named_read_line (name_of_item items r.item.0) r

-- the updates that committed before q, without these, in commit order
abbrev pub updates_outside : Schedule → ℕ → List ℕ → List ℕ
updates_outside h q us = filter (λ u. not (is_among us u)) (updates_committed_before h q)

-- ---- charges

-- the import of q, and the export of u, before the entry at place i
abbrev pub import_before : DistanceFunction → Schedule → ℕ → ℕ → ℕ
import_before d h q i = import_in (charges_in d (until i h)) q

abbrev pub export_before : DistanceFunction → Schedule → ℕ → ℕ → ℕ
export_before d h u i = export_in (charges_in d (until i h)) u

-- the update that holds the write lock of the item, if any
abbrev pub active_writer : Schedule → ℕ → Option ℕ
active_writer h x = if nat_lt x (length h.opening) then writer (accepted_in h) x else None

-- the conflict of an operation: its `update` is, for a read, the active writer of the item, and for a write, the
-- transaction that writes
abbrev pub conflict : Schedule → Event → Option Conflict
conflict h (Read t x) =
    option_map (λ u. record { operation = operation.Read; update = record { 0 = u }; item = x }) (active_writer h x.0)
conflict h (Write u x v) = Some (record { operation = operation.Write; update = u; item = x })
conflict h _ = None

-- The charge to q of the entry at place i: the amount that q imported by it, and what is left of both limits after it.
abbrev pub charge_of : DistanceFunction → Schedule → ℕ → ℕ → Conflict → Charge
charge_of d h q i m = record {
  amount = import_before d h q (i + 1) - import_before d h q i;
  step = i + 1;
  conflict = m;
  import_left = limit_of (accepted_in h) q - import_before d h q (i + 1);
  import_limit = limit_of (accepted_in h) q;
  export_left = limit_of (accepted_in h) m.update.0 - export_before d h m.update.0 (i + 1);
  export_limit = limit_of (accepted_in h) m.update.0;
}

-- the charge of the entry at place i, if q imported something by it
abbrev pub charge_at : DistanceFunction → Schedule → ℕ → ℕ → Option Entry → Option Charge
charge_at d h q i None = None
charge_at d h q i (Some e) =
    if import_before d h q (i + 1) == import_before d h q i then None
    else option_map (charge_of d h q i) (conflict (until i h) e.event)

-- the charges to q, in order
abbrev pub charges : DistanceFunction → Schedule → ℕ → List Charge
charges d h q = filter_map (λ i. charge_at d h q i (slice_get h.entries i)) (range_with_len 0 (length h.entries))

-- the first words of the line of a charge
abbrev pub charge_keyword : OperationKind → List ℕ
charge_keyword operation.Read = codes "charge read"
charge_keyword operation.Write = codes "charge write"

-- the line of a charge with these texts for the operation, the update and the item
abbrev pub named_charge_line : (charge_keyword update item : List ℕ) → Charge → List ℕ
named_charge_line charge_keyword update item c = line (
    charge_keyword ∷ update ∷ item ∷ codes "amount" ∷ decimal c.amount ∷ codes "step" ∷ decimal c.step
    ∷ codes "import left" ∷ decimal c.import_left ∷ codes "of" ∷ decimal c.import_limit
    ∷ codes "export left" ∷ decimal c.export_left ∷ codes "of" ∷ decimal c.export_limit ∷ []
    )

abbrev pub charge_line : (items transactions : List (List ℕ)) → Charge → List ℕ
charge_line items transactions c =
    named_charge_line (charge_keyword c.conflict.operation) (name_of_transaction transactions c.conflict.update.0)
    (name_of_item items c.conflict.item.0) c

-- ---- the whole

-- the distance and the import, in the format of the audit
abbrev pub distance_and_import_line : ℕ → ℕ → List ℕ
distance_and_import_line distance import = line (codes "distance" ∷ decimal distance ∷ codes "import" ∷ decimal import ∷ [])

-- the lines of an explanation: reads, charges, the updates before the nearest placement and the others, and the sums
abbrev pub explanation_lines : (items transactions : List (List ℕ)) → List ComparedRead → List Charge
    → (before after : List ℕ) → (distance import : ℕ) → List ℕ
explanation_lines items transactions reads charges before after distance import =
    flat_map (read_line items) reads
    ++ flat_map (charge_line items transactions) charges
    ++ names_line (codes "before") transactions before
    ++ names_line (codes "after") transactions after
    ++ distance_and_import_line distance import

-- the explanation of q, with the values of its nearest placement
abbrev pub explanation : DistanceFunction → Schedule → (items transactions : List (List ℕ)) → ℕ → List ℕ
explanation d h items transactions q =
    explanation_lines items transactions (compared_reads d h q (nearest_placement d h q)) (charges d h q) (nearest_placement d h q)
    (updates_outside h q (nearest_placement d h q)) (least_distance d h q) (import_in (charges_in d h) q)
