-- What a reply may repeat of its line: the names in the event, separated by single blanks, or the whole line.
use Rattle.std.specs.Prelude.{◌≡◌, ◌∷◌, ◌++◌, [], codes}
use Rattle.std.specs.List.{join_with_byte}
use Rattle.std.specs.Fmt.{signed_decimal}
use Rattle.esr_report.specs.Lines.{Named}
use Rattle.esr_script.specs.declared.echo.Echo.{Echo}
use Rattle.esr_script.specs.declared.echo.Echo.TheVariants as echo

abbrev pub IsEcho : Echo → Named → Type 0
IsEcho (echo.Read words) named = words.now ≡ join_with_byte 32 (named.txn ∷ named.item ∷ [])
IsEcho (echo.Begin words) named = words.now ≡ codes "begin " ++ named.txn
IsEcho echo.Commit named = Unit {0}
IsEcho (echo.Write line) named =
    line.now ≡ codes "write " ++ join_with_byte 32 (named.txn ∷ named.item ∷ signed_decimal named.value ∷ [])
