use Rattle.std.proofs.Common.{ℕ, List, [], Option, None, Some, sym, ◌∙◌, append-nil}
use Rattle.std.specs.Io.KnownBytes.{Appends, Keeps}
use Rattle.esr_base.proofs.watched.Watched.send_all.Goals as goal

-- a flush after the bytes keeps them
kept : (a b c : Option (List ℕ)) (bs : List ℕ) → Appends a b bs → Keeps b c → Appends a c bs
kept None b c bs p q = tt
kept (Some x) None c bs p q = absurd p
kept (Some x) (Some y) None bs p q = absurd q
kept (Some x) (Some y) (Some z) bs p q = q ∙ p

pub returns-then-is_err-clause-err : goal.returns-then-is_err-clause-err
returns-then-is_err-clause-err g c = (c.args.bytes.now, ([], sym (append-nil c.args.bytes.now)), kept _ _ _ _ c.in_ok-send.ensures.ok c.flush.ensures.bytes)

pub returns-clause-ok : goal.returns-clause-ok
returns-clause-ok g c = kept _ _ _ _ c.in_ok-send.ensures.ok c.flush.ensures.bytes
