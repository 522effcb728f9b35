-- Consequences of a read, a write and an end that are not refused, one for each reason to refuse.
use Rattle.std.proofs.Common.{◌≡◌, ℤ, List, [], ◌∷◌, Option, None, Some, refl, arith}
use Rattle.esr_history.specs.Events.{ItemId, TxnId, Read, Write, Refusal}
use Rattle.esr_history.specs.Machine.{DistanceFunction, Schedule, not_begun, ended, no_item, query_writes, out_of_range, many_reads, read_blocked, write_blocked, import_full, export_full, due_in, first_reason, reasons}

-- none of the reasons applies
abbrev pub NoneApplies : List (Option Refusal) → Type 0
NoneApplies [] = Unit {0}
NoneApplies (r ∷ rs) = (r ≡ None) × NoneApplies rs

pub none_applies : (rs : List (Option Refusal)) → first_reason rs ≡ None → NoneApplies rs
none_applies [] none = tt
none_applies (None ∷ rs) none = (refl, none_applies rs none)
none_applies (Some why ∷ rs) none = absurd (cc)

pub record ReadAllowed (d : DistanceFunction) (h : Schedule) (t : TxnId) (x : ItemId) : Type 0 where
  pub begun : not_begun h t.0 ≡ None
  pub active : ended h t.0 ≡ None
  pub item : no_item h x.0 ≡ None
  pub count_within_max : many_reads h t.0 ≡ None
  pub free : read_blocked h t.0 x.0 ≡ None
  pub imports : import_full d h (due_in d h (Read t x)) ≡ None
  pub exports : export_full d h (due_in d h (Read t x)) ≡ None

-- apart from the charges of a write
pub record WriteOpen (h : Schedule) (t : TxnId) (x : ItemId) (v : ℤ) : Type 0 where
  pub begun : not_begun h t.0 ≡ None
  pub active : ended h t.0 ≡ None
  pub item : no_item h x.0 ≡ None
  pub update : query_writes h t.0 ≡ None
  pub value : out_of_range v ≡ None
  pub free : write_blocked h t.0 x.0 ≡ None

pub record WriteAllowed (d : DistanceFunction) (h : Schedule) (t : TxnId) (x : ItemId) (v : ℤ) : Type 0 where
  pub uncharged : WriteOpen h t x v
  pub imports : import_full d h (due_in d h (Write t x v)) ≡ None
  pub exports : export_full d h (due_in d h (Write t x v)) ≡ None

pub record EndAllowed (h : Schedule) (t : TxnId) : Type 0 where
  pub begun : not_begun h t.0 ≡ None
  pub active : ended h t.0 ≡ None

-- The reasons are numbered here alone, in their order.
pub read_allowed : (d : DistanceFunction) (h : Schedule) (t : TxnId) (x : ItemId) → NoneApplies (reasons d h (Read t x)) → ReadAllowed d h t x
read_allowed d h t x none = record {
  begun = none.0;
  active = none.1.0;
  item = none.1.1.0;
  count_within_max = none.1.1.1.0;
  free = none.1.1.1.1.0;
  imports = none.1.1.1.1.1.0;
  exports = none.1.1.1.1.1.1.0;
}

pub write_open : (h : Schedule) (t : TxnId) (x : ItemId) (v : ℤ)
    → NoneApplies (not_begun h t.0 ∷ ended h t.0 ∷ no_item h x.0 ∷ query_writes h t.0 ∷ out_of_range v ∷ write_blocked h t.0 x.0 ∷ []) → WriteOpen h t x v
write_open h t x v none = record {
  begun = none.0;
  active = none.1.0;
  item = none.1.1.0;
  update = none.1.1.1.0;
  value = none.1.1.1.1.0;
  free = none.1.1.1.1.1.0;
}

pub write_allowed : (d : DistanceFunction) (h : Schedule) (t : TxnId) (x : ItemId) (v : ℤ) → NoneApplies (reasons d h (Write t x v)) → WriteAllowed d h t x v
write_allowed d h t x v none = grind (arith, write_open)

pub end_allowed : (h : Schedule) (t : TxnId) → NoneApplies (not_begun h t.0 ∷ ended h t.0 ∷ []) → EndAllowed h t
end_allowed h t none = record { begun = none.0; active = none.1.0 }
