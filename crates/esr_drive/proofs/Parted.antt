-- The parts of a text, one after the other.
use Rattle.std.proofs.Common.{◌≡◌, ℕ, ◌+◌, ◌<◌, List, [], ◌∷◌, ◌++◌, length, take, drop, get_or, flat_map, Vec, Global, Result, Ok, Err, OnErr, ap, sym, ◌∙◌, append_assoc, append-nil, take-append-drop}
use Rattle.std.proofs.lemmas.Grind.{flat_map-append}
use Rattle.std.proofs.lemmas.List.{take_more}
use Rattle.esr_base.specs.Watch.{BeginsWith}

abbrev Part : Type 0
Part = Vec ℕ Global

abbrev pub text : List Part → List ℕ
text parts = flat_map (λ (part : Part). part.items) parts

-- one part more
pub text_more : (parts : List Part) (i : ℕ) (part : Part) → i < length parts → part ≡ get_or parts i part → text (take (i + 1) parts) ≡ text (take i parts) ++ part.items
text_more parts i part lt is =
    ap text (take_more parts i part lt ∙ ap (λ (p : Part). take i parts ++ p ∷ []) (sym is))
    ∙ (flat_map-append (λ (p : Part). p.items) (take i parts) (part ∷ []) ∙ ap (λ l. text (take i parts) ++ l) (append-nil part.items))

-- the parts before one, and a prefix of it
pub text_begins : (parts : List Part) (i : ℕ) (part : Part) (sent : List ℕ) → i < length parts → part ≡ get_or parts i part → BeginsWith part.items sent → BeginsWith (text parts) (text (take i parts) ++ sent)
text_begins parts i part sent lt is begins =
    let rest = text (drop (i + 1) parts) in
    let whole : text parts ≡ text (take (i + 1) parts) ++ rest =
    ap text (sym (take-append-drop (i + 1) parts)) ∙ flat_map-append (λ (p : Part). p.items) (take (i + 1) parts) (drop (i + 1) parts) in
    let front : text (take (i + 1) parts) ≡ (text (take i parts) ++ sent) ++ begins.0 =
    text_more parts i part lt is ∙ (ap (λ l. text (take i parts) ++ l) begins.1 ∙ sym (append_assoc (text (take i parts)) sent begins.0)) in
    (begins.0 ++ rest, whole ∙ (ap (λ l. l ++ rest) front ∙ append_assoc (text (take i parts) ++ sent) begins.0 rest))

pub on_err : {T E P : Type 0} (r : Result T E) → P → OnErr r P
on_err (Ok x) p = tt
on_err (Err e) p = p
