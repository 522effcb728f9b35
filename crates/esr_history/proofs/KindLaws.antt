-- The kind of a transaction and the test for a query determine each other.
use Rattle.std.proofs.Common.{◌≡◌, Bool, true, false, refl}
use Rattle.esr_history.specs.Events.{BeginKind, Update, Query, kind_of, is_query_kind}

pub query_kind : (query : Bool) → is_query_kind (kind_of query) ≡ query
query_kind true = refl
query_kind false = refl

pub kind_round_trip : (k : BeginKind) → kind_of (is_query_kind k) ≡ k
kind_round_trip Query = refl
kind_round_trip Update = refl
