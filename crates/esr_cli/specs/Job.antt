-- The jobs that arguments request.
use Rattle.std.specs.Prelude.{◌≡◌, ◌≤◌, ◌⊎◌, ⊤, ℕ, Bool, true, false, List, [], ◌∷◌, ◌++◌, Option, Some, None, codes, if◌then◌else◌, option_and_then, option_map, unwrap_or, bytes_eq}
use Rattle.std.specs.Option.{option_map_or}
use Rattle.std.specs.Str.Parse.{digits_value, without_leading_plus}
use Rattle.clap.specs.Lexer.{strip_byte}
use Rattle.clap.specs.Words.{Row, Text, first_of, one_of}
use Rattle.clap.specs.ValueTests.{is_unsigned_in}
use Rattle.esr_cli.specs.declared.Job.{Job}
use Rattle.esr_cli.specs.declared.Task.{Task}
use Rattle.esr_cli.specs.declared.Task.TheVariants as task
use Rattle.esr_cli.specs.declared.Format.{Format}
use Rattle.esr_cli.specs.declared.Format.TheVariants.{Text as Plain, Csv, Json}
use Rattle.esr_cli.specs.declared.Progress.{Progress}
use Rattle.esr_cli.specs.declared.Progress.TheVariants.{AtATerminal, Always, Never}

-- a subcommand with its own options
pub data RequestedCommand : Type 0 where
  run : RequestedCommand
  certify : (name : Text) → (steps : Bool) → RequestedCommand
  check : (script query : Option Text) → (verbose : Bool) → RequestedCommand
  explain : (name : Text) → (prose : Bool) → RequestedCommand
  picture : (name : Text) → RequestedCommand
  page : (worst : ℕ) → RequestedCommand
  audit : (workers : ℕ) → RequestedCommand
  drive : (workers : ℕ) → (as_script : Bool) → RequestedCommand
  explore : (seeds : Option ℕ) → (all : Bool) → (worst : Option Text) → RequestedCommand
  ledger : RequestedCommand
  why : (name : Option Text) → RequestedCommand
  timeline : (name : Option Text) → RequestedCommand
  trace : RequestedCommand
  shrink : (name : Text) → (at_least : Option ℕ) → RequestedCommand
  lint : RequestedCommand

-- a request to the program: the subcommand, the file to read, if one is named, whether a line with a fault affects the
-- status, when progress is shown, and the output format, if its name is known
pub record Request : Type 0 where
  pub command : RequestedCommand
  pub file : Option Text
  pub bail : Bool
  pub progress : Progress
  pub format : Option Format

abbrev pub requested_command : Task → RequestedCommand
requested_command task.Run = run
requested_command (task.Certify name steps) = certify name.now steps
requested_command (task.Check script query verbose) =
    check (option_map (λ file. file.now) script) (option_map (λ name. name.now) query) verbose
requested_command (task.Explain name prose) = explain name.now prose
requested_command (task.Picture name) = picture name.now
requested_command (task.Page worst) = page worst
requested_command (task.Audit workers) = audit workers
requested_command (task.Drive workers script) = drive workers script
requested_command (task.Explore seeds all worst) = explore seeds all (option_map (λ by. by.now) worst)
requested_command task.Ledger = ledger
requested_command (task.Why name) = why (option_map (λ n. n.now) name)
requested_command (task.Timeline name) = timeline (option_map (λ n. n.now) name)
requested_command task.Trace = trace
requested_command (task.Shrink name at_least) = shrink name.now at_least
requested_command task.Lint = lint

abbrev pub request_of : Job → Request
request_of job = record {
  command = requested_command job.task;
  file = option_map (λ name. name.now) job.file;
  bail = job.bail;
  progress = job.progress;
  format = job.format;
}

-- 1 to 64 workers, if the subcommand has any
abbrev pub HasWorkers : RequestedCommand → Type 0
HasWorkers (audit workers) = (1 ≤ workers) × (workers ≤ 64)
HasWorkers (drive workers script) = (1 ≤ workers) × (workers ≤ 64)
HasWorkers _ = ⊤

abbrev pub parsed_bool : Text → Option Bool
parsed_bool text = if bytes_eq text (codes "true") then Some true
    else (if bytes_eq text (codes "false") then Some false else None)

abbrev pub parsed_number : Text → Option ℕ
parsed_number text = if is_unsigned_in 0 18446744073709551615 text
    then Some (digits_value 10 (without_leading_plus text)) else None

-- ---- the request in the matches of a subcommand

-- whether a flag is set
abbrev pub flag_in : Text → List Row → Bool
flag_in flag rows = unwrap_or (option_and_then parsed_bool (one_of flag rows)) false

abbrev pub certify_in : List Row → Option RequestedCommand
certify_in rows = option_map (λ name. certify name (flag_in (codes "steps") rows)) (first_of (codes "NAME") rows)

abbrev pub explain_in : List Row → Option RequestedCommand
explain_in rows = option_map (λ name. explain name (flag_in (codes "prose") rows)) (first_of (codes "NAME") rows)

-- the check requested by the matches
abbrev pub check_in : List Row → RequestedCommand
check_in rows = check (first_of (codes "script") rows) (first_of (codes "query") rows) (flag_in (codes "verbose") rows)

-- when progress is shown; `--no-progress` takes precedence
abbrev pub progress_in : List Row → Progress
progress_in rows = if flag_in (codes "no-progress") rows then Never
    else (if flag_in (codes "progress") rows then Always else AtATerminal)

abbrev pub format_of_name : Text → Option Format
format_of_name name = if bytes_eq name (codes "text") then Some Plain
    else (if bytes_eq name (codes "csv") then Some Csv
    else (if bytes_eq name (codes "json") then Some Json else None))

-- text if no format is named
abbrev pub format_in : List Row → Option Format
format_in rows = option_map_or format_of_name (first_of (codes "format") rows) (Some Plain)

-- the number passed to an option
abbrev pub number_option : Text → List Row → Option ℕ
number_option option rows = option_and_then parsed_number (one_of option rows)

abbrev pub workers_in : List Row → Option ℕ
workers_in = number_option (codes "workers")

abbrev pub drive_in : List Row → Option RequestedCommand
drive_in rows = option_map (λ workers. drive workers (flag_in (codes "as-script") rows)) (workers_in rows)

-- the interleavings to run, and the one to write
abbrev pub explore_in : List Row → RequestedCommand
explore_in rows = explore (number_option (codes "seeds") rows) (flag_in (codes "all") rows) (first_of (codes "worst") rows)

-- the query of which a smaller script is searched for, and the distance that it keeps
abbrev pub shrink_in : List Row → Option RequestedCommand
shrink_in rows = option_map (λ name. shrink name (number_option (codes "at-least") rows)) (first_of (codes "NAME") rows)

-- the request of a subcommand, from its matches
abbrev pub task_in : Text → List Row → Option RequestedCommand
task_in name rows =
    if bytes_eq name (codes "run") then Some run
    else (if bytes_eq name (codes "certify") then certify_in rows
    else (if bytes_eq name (codes "check") then Some (check_in rows)
    else (if bytes_eq name (codes "explain") then explain_in rows
    else (if bytes_eq name (codes "picture") then option_map picture (first_of (codes "NAME") rows)
    else (if bytes_eq name (codes "page") then option_map page (number_option (codes "worst") rows)
    else (if bytes_eq name (codes "audit") then option_map audit (workers_in rows)
    else (if bytes_eq name (codes "drive") then drive_in rows
    else (if bytes_eq name (codes "explore") then Some (explore_in rows)
    else (if bytes_eq name (codes "ledger") then Some ledger
    else (if bytes_eq name (codes "why") then Some (why (first_of (codes "NAME") rows))
    else (if bytes_eq name (codes "timeline") then Some (timeline (first_of (codes "NAME") rows))
    else (if bytes_eq name (codes "trace") then Some trace
    else (if bytes_eq name (codes "shrink") then shrink_in rows
    else (if bytes_eq name (codes "lint") then Some lint
    else None))))))))))))))

-- the request for a subcommand with the common options
abbrev pub requested : List Row → RequestedCommand → Request
requested rows command = record {
  command = command;
  file = first_of (codes "FILE") rows;
  bail = flag_in (codes "bail") rows;
  progress = progress_in rows;
  format = format_in rows;
}

abbrev pub request_of_command : Text → List Row → Option Request
request_of_command name rows = option_map (requested rows) (task_in name rows)

abbrev pub request_in : Option (Text × List Row) → Option Request
request_in None = None
request_in (Some p) = request_of_command p.0 p.1

-- ---- the arguments for it

-- the argument is not an option, since it does not begin with `-`
abbrev pub IsPlainWord : Text → Type 0
IsPlainWord word = strip_byte 45 word ≡ None

-- a program's name, and the arguments that follow it
abbrev pub IsArgv : List Text → List Text → Type 0
IsArgv words rest = (name : Text) × (words ≡ name ∷ rest)

-- the flag, if it is set
abbrev pub flag_words : Bool → Text → List Text
flag_words true flag = flag ∷ []
flag_words false flag = []

-- the file, if one is named
abbrev pub file_words : Option Text → List Text
file_words None = []
file_words (Some file) = file ∷ []

-- the permitted names of a file: `-`, which is standard input, or a plain word
abbrev pub IsFile : Option Text → Type 0
IsFile None = ⊤
IsFile (Some file) = (file ≡ codes "-") ⊎ IsPlainWord file

-- a subcommand that takes a file, with its own options
abbrev pub IsSyntaxOfFileCommand : Text → List Text → Request → List Text → Type 0
IsSyntaxOfFileCommand name options r words =
    IsFile r.file × (r.bail ≡ false) × IsArgv words (name ∷ (options ++ file_words r.file))

-- one that takes `--bail` too, and operands before the file
abbrev pub IsSyntaxOfScriptCommand : Text → List Text → List Text → Request → List Text → Type 0
IsSyntaxOfScriptCommand name options operands r words =
    IsFile r.file
    × IsArgv words (name ∷ (options ++ (flag_words r.bail (codes "--bail") ++ (operands ++ file_words r.file))))

-- an option with a number, which is omitted if it is the default
abbrev pub IsNumberOption : Text → ℕ → ℕ → List Text → Type 0
IsNumberOption option default_value count options = ((count ≡ default_value) × (options ≡ []))
    ⊎ ((text : Text) × (is_unsigned_in 1 64 text ≡ true) × (count ≡ digits_value 10 (without_leading_plus text))
    × (options ≡ option ∷ text ∷ []))

-- a number of workers, which is omitted if it is 4
abbrev pub IsWorkers : ℕ → List Text → Type 0
IsWorkers = IsNumberOption (codes "--workers") 4

-- the arguments that request a subcommand, with no others
abbrev pub IsSyntaxOfTask : RequestedCommand → Request → List Text → Type 0
IsSyntaxOfTask run r words = IsSyntaxOfScriptCommand (codes "run") [] [] r words
IsSyntaxOfTask (certify name steps) r words =
    IsPlainWord name × IsSyntaxOfScriptCommand (codes "certify") (flag_words steps (codes "--steps")) (name ∷ []) r words
IsSyntaxOfTask (check None None false) r words = IsSyntaxOfFileCommand (codes "check") [] r words
IsSyntaxOfTask (explain name prose) r words =
    IsPlainWord name × IsSyntaxOfScriptCommand (codes "explain") (flag_words prose (codes "--prose")) (name ∷ []) r words
IsSyntaxOfTask (picture name) r words = IsPlainWord name × IsSyntaxOfScriptCommand (codes "picture") [] (name ∷ []) r words
IsSyntaxOfTask (page worst) r words =
    (options : List Text) × IsNumberOption (codes "--worst") 10 worst options
    × IsSyntaxOfScriptCommand (codes "page") options [] r words
IsSyntaxOfTask (audit workers) r words =
    (options : List Text) × IsWorkers workers options × IsSyntaxOfScriptCommand (codes "audit") options [] r words
IsSyntaxOfTask (drive workers script) r words =
    (options : List Text) × IsWorkers workers options
    × IsSyntaxOfFileCommand (codes "drive") (options ++ flag_words script (codes "--as-script")) r words
IsSyntaxOfTask (explore None all None) r words =
    IsSyntaxOfFileCommand (codes "explore") (flag_words all (codes "--all")) r words
IsSyntaxOfTask ledger r words = IsSyntaxOfScriptCommand (codes "ledger") [] [] r words
IsSyntaxOfTask (why None) r words = IsSyntaxOfScriptCommand (codes "why") [] [] r words
IsSyntaxOfTask (timeline None) r words = IsSyntaxOfScriptCommand (codes "timeline") [] [] r words
IsSyntaxOfTask trace r words = IsSyntaxOfScriptCommand (codes "trace") [] [] r words
IsSyntaxOfTask (shrink name None) r words =
    IsPlainWord name × IsSyntaxOfScriptCommand (codes "shrink") [] (name ∷ []) r words
IsSyntaxOfTask lint r words = IsSyntaxOfFileCommand (codes "lint") [] r words
IsSyntaxOfTask _ r words = ⊥

-- the arguments of a request without other options
abbrev pub IsSyntaxOf : List Text → Request → Type 0
IsSyntaxOf words r = (r.progress ≡ AtATerminal) × (r.format ≡ Some Plain) × IsSyntaxOfTask r.command r words
