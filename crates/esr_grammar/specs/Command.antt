-- A command and its one text; the command of a line, found by its words; and the command of a parsed line.
use Rattle.std.specs.Prelude.{◌≡◌, ℕ, ◌+◌, ◌-◌, ◌*◌, ◌^◌, ◌<◌, ℤ, pos, neg_ℤ, List, [], ◌∷◌, Bool, true, false, ◌&&◌, ◌||◌, IsTrue, nat_eq, nat_le, nat_lt, nat_abs, length, cond, Option, Some, None, codes, decimal, option_and_then, option_map, if◌then◌else◌, bytes_eq}
use Rattle.std.specs.List.{join_with_byte, list_all, All, slice_split}
use Rattle.std.specs.Option.{option_or}
use Rattle.std.specs.Borrow.{Bor}
use Rattle.std.specs.Fmt.{signed_decimal}
use Rattle.esr_grammar.specs.declared.words.TheConstants.{INT_END}
use Rattle.esr_grammar.specs.declared.parse.Line.{Line}
use Rattle.esr_grammar.specs.declared.parse.Line.TheVariants as line
use Rattle.esr_grammar.specs.declared.parse.Parsed.{Parsed}
use Rattle.esr_grammar.specs.declared.parse.Parsed.TheVariants as parsed

-- ---- the text of commands

-- the requests of lines that are not skipped
pub data Command : Type 0 where
  item : (name : List ℕ) (value : ℤ) → Command
  weighted_item : (name : List ℕ) (value : ℤ) (weight : ℕ) → Command
  begin_update : (name : List ℕ) (limit : ℕ) → Command
  begin_query : (name : List ℕ) (limit : ℕ) → Command
  begin_strict_query : (name : List ℕ) (limit : ℕ) → Command
  read : (txn item : List ℕ) → Command
  write : (txn item : List ℕ) (value : ℤ) → Command
  commit : (txn : List ℕ) → Command
  abort : (txn : List ℕ) → Command
  audit : (txn : List ℕ) → Command
  totals : Command

-- the tokens of a command
abbrev pub words : Command → List (List ℕ)
words (item n v) = codes "item" ∷ n ∷ signed_decimal v ∷ []
words (weighted_item n v w) = codes "item" ∷ n ∷ signed_decimal v ∷ codes "weight" ∷ decimal w ∷ []
words (begin_update n l) = codes "begin" ∷ n ∷ codes "update" ∷ decimal l ∷ []
words (begin_query n l) = codes "begin" ∷ n ∷ codes "query" ∷ decimal l ∷ []
words (begin_strict_query n l) = codes "begin" ∷ n ∷ codes "query" ∷ decimal l ∷ codes "strict" ∷ []
words (read t x) = codes "read" ∷ t ∷ x ∷ []
words (write t x v) = codes "write" ∷ t ∷ x ∷ signed_decimal v ∷ []
words (commit t) = codes "commit" ∷ t ∷ []
words (abort t) = codes "abort" ∷ t ∷ []
words (audit t) = codes "audit" ∷ t ∷ []
words totals = codes "totals" ∷ []

-- its words, separated by single blanks
abbrev pub spelling : Command → List ℕ
spelling c = join_with_byte 32 (words c)

abbrev pub is_between : ℕ → ℕ → ℕ → Bool
is_between low high b = nat_le low b && nat_le b high

abbrev pub is_letter : ℕ → Bool
is_letter b = is_between 97 122 b || is_between 65 90 b

abbrev pub is_name_byte : ℕ → Bool
is_name_byte b = is_letter b || (is_between 48 57 b || nat_eq b 95)

-- a letter, and up to 15 letters, digits or underscores
abbrev pub is_name : List ℕ → Bool
is_name [] = false
is_name (b ∷ bs) = is_letter b && (nat_le (length bs) 15 && list_all is_name_byte bs)

abbrev pub IsName : List ℕ → Type 0
IsName text = IsTrue (is_name text)

-- integers of up to 18 digits
abbrev pub IsInt : ℤ → Type 0
IsInt v = nat_abs v < INT_END

-- numbers of up to 19 digits
abbrev pub IsLimit : ℕ → Type 0
IsLimit n = n < 10 ^ 19

-- commands that have a text
abbrev pub IsCommand : Command → Type 0
IsCommand (item n v) = IsName n × IsInt v
IsCommand (weighted_item n v w) = IsName n × IsInt v × IsLimit w
IsCommand (begin_update n l) = IsName n × IsLimit l
IsCommand (begin_query n l) = IsName n × IsLimit l
IsCommand (begin_strict_query n l) = IsName n × IsLimit l
IsCommand (read t x) = IsName t × IsName x
IsCommand (write t x v) = IsName t × IsName x × IsInt v
IsCommand (commit t) = IsName t
IsCommand (abort t) = IsName t
IsCommand (audit t) = IsName t
IsCommand totals = Unit {0}

-- an empty line and a comment
abbrev pub is_skipped : List ℕ → Bool
is_skipped [] = true
is_skipped (b ∷ bs) = nat_eq b 35

-- the line is the text of this command
abbrev pub IsSyntaxOf : List ℕ → Command → Type 0
IsSyntaxOf line c = IsCommand c × (line ≡ spelling c)

-- no blank is in the word
abbrev pub IsPlainWord : List ℕ → Type 0
IsPlainWord word = All (λ b. nat_eq b 32 ≡ false) word

-- ---- the parsing of lines

abbrev pub is_space : ℕ → Bool
is_space b = nat_eq b 32

-- the words between single blanks
abbrev pub words_of : List ℕ → List (List ℕ)
words_of bytes = slice_split is_space bytes

-- the words after the first blank, if there is one
abbrev pub words_after : Option (Bor (List ℕ)) → List (List ℕ)
words_after None = []
words_after (Some rest) = words_of rest.now

abbrev pub name_of : List ℕ → Option (List ℕ)
name_of text = cond (is_name text) (Some text) None

-- the value of digits that follow digits of value n
abbrev pub value_from : ℕ → List ℕ → ℕ
value_from n [] = n
value_from n (c ∷ cs) = value_from (10 * n + (c - 48)) cs

-- the number below the bound of which the text is the decimal form
abbrev pub number_below : ℕ → List ℕ → Option ℕ
number_below bound text = let n = value_from 0 text in cond (nat_lt n bound && bytes_eq text (decimal n)) (Some n) None

abbrev pub limit_in : List ℕ → Option ℕ
limit_in text = number_below (10 ^ 19) text

abbrev pub minus : ℕ → Option ℤ
minus n = cond (nat_eq n 0) None (Some (neg_ℤ (pos n)))

-- the whole number of which the text is the decimal form
abbrev pub int_of : List ℕ → Option ℤ
int_of [] = None
int_of (c ∷ cs) =
    cond (nat_eq c 45)
    (option_and_then minus (number_below INT_END cs)) (option_map pos (number_below INT_END (c ∷ cs)))

-- the words, if their number is right
abbrev pub one_of : List (List ℕ) → Option (List ℕ)
one_of (a ∷ []) = Some a
one_of ws = None

abbrev pub two_of : List (List ℕ) → Option (List ℕ × List ℕ)
two_of (a ∷ b ∷ []) = Some (a, b)
two_of ws = None

abbrev pub three_of : List (List ℕ) → Option (List ℕ × List ℕ × List ℕ)
three_of (a ∷ b ∷ c ∷ []) = Some (a, b, c)
three_of ws = None

abbrev pub four_of : List (List ℕ) → Option (List ℕ × List ℕ × List ℕ × List ℕ)
four_of (a ∷ b ∷ c ∷ d ∷ []) = Some (a, b, c, d)
four_of ws = None

-- both, or none
abbrev pub both : {A B C : Type 0} → (A → B → C) → Option A → Option B → Option C
both f a b = option_and_then (λ x. option_map (f x) b) a

-- the command of the words after each first word
abbrev pub plain_item_command : List (List ℕ) → Option Command
plain_item_command ws = option_and_then (λ p. both item (name_of p.0) (int_of p.1)) (two_of ws)

abbrev pub weighted_item_command : List (List ℕ) → Option Command
weighted_item_command ws =
    option_and_then (λ p.
    if bytes_eq p.2 (codes "weight")
    then option_and_then (λ n. both (weighted_item n) (int_of p.1) (limit_in p.3)) (name_of p.0)
    else None) (four_of ws)

abbrev pub item_command : List (List ℕ) → Option Command
item_command ws = option_or (plain_item_command ws) (weighted_item_command ws)

abbrev pub strict_query_command : List (List ℕ) → Option Command
strict_query_command ws =
    option_and_then (λ p.
    if bytes_eq p.1 (codes "query") && bytes_eq p.3 (codes "strict")
    then both begin_strict_query (name_of p.0) (limit_in p.2)
    else None) (four_of ws)

abbrev pub plain_begin_command : List (List ℕ) → Option Command
plain_begin_command ws =
    option_and_then (λ p.
    if bytes_eq p.1 (codes "update") then both begin_update (name_of p.0) (limit_in p.2)
    else if bytes_eq p.1 (codes "query") then both begin_query (name_of p.0) (limit_in p.2)
    else None) (three_of ws)

abbrev pub begin_command : List (List ℕ) → Option Command
begin_command ws = option_or (plain_begin_command ws) (strict_query_command ws)

abbrev pub read_command : List (List ℕ) → Option Command
read_command ws = option_and_then (λ p. both read (name_of p.0) (name_of p.1)) (two_of ws)

abbrev pub write_command : List (List ℕ) → Option Command
write_command ws =
    option_and_then (λ p. option_and_then (λ t. both (write t) (name_of p.1) (int_of p.2)) (name_of p.0)) (three_of ws)

abbrev pub one_name_of : List (List ℕ) → Option (List ℕ)
one_name_of ws = option_and_then name_of (one_of ws)

abbrev pub totals_command : List (List ℕ) → Option Command
totals_command [] = Some totals
totals_command ws = None

abbrev pub one_name_command : List ℕ → List (List ℕ) → Option Command
one_name_command word ws =
    if bytes_eq word (codes "commit") then option_map commit (one_name_of ws)
    else if bytes_eq word (codes "abort") then option_map abort (one_name_of ws)
    else if bytes_eq word (codes "audit") then option_map audit (one_name_of ws)
    else None

abbrev pub command_of : List ℕ → List (List ℕ) → Option Command
command_of word ws =
    if bytes_eq word (codes "totals") then totals_command ws
    else if bytes_eq word (codes "read") then read_command ws
    else if bytes_eq word (codes "write") then write_command ws
    else if bytes_eq word (codes "begin") then begin_command ws
    else if bytes_eq word (codes "item") then item_command ws
    else one_name_command word ws

abbrev pub command_by : List (List ℕ) → Option Command
command_by [] = None
command_by (word ∷ ws) = command_of word ws

abbrev pub reading : List ℕ → Option Command
reading line = command_by (words_of line)

-- the command of a parsed line
abbrev pub view : Line → Command
view (line.Item name value) = item name.now value
view (line.WeightedItem name value weight) = weighted_item name.now value weight
view (line.BeginUpdate name limit) = begin_update name.now limit
view (line.BeginQuery name limit) = begin_query name.now limit
view (line.BeginStrictQuery name limit) = begin_strict_query name.now limit
view (line.Read txn x) = read txn.now x.now
view (line.Write txn x value) = write txn.now x.now value
view (line.Commit txn) = commit txn.now
view (line.Abort txn) = abort txn.now
view (line.Audit txn) = audit txn.now
view line.Totals = totals

-- the command that was found, if one was
abbrev pub command_in : Parsed → Option Command
command_in parsed.Skipped = None
command_in parsed.NotACommand = None
command_in (parsed.Command l) = Some (view l)

-- the result of parsing a line agrees with its reading
abbrev pub IsReadingOf : List ℕ → Parsed → Type 0
IsReadingOf bytes parsed.Skipped = is_skipped bytes ≡ true
IsReadingOf bytes parsed.NotACommand = (is_skipped bytes ≡ false) × (reading bytes ≡ None)
IsReadingOf bytes (parsed.Command l) = (is_skipped bytes ≡ false) × (reading bytes ≡ Some (view l))
