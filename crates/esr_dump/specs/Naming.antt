-- The names of items and transactions: numbers with a letter, or those of a text that has one on each line.
use Rattle.std.specs.Prelude.{ℕ, List, [], ◌++◌, Bool, ◌&&◌, Option, Some, None, map, length, codes, decimal, nat_eq, cond, slice_index_or}
use Rattle.std.specs.List.{list_all, range_with_len, slice_split}
use Rattle.esr_grammar.specs.Command.{is_name}
use Rattle.esr_report.specs.Names.{all_distinct}

-- `i0` is item 0, `t1` transaction 1
abbrev pub numbered : List ℕ → ℕ → List ℕ
numbered word number = word ++ decimal number

-- `count` such names, from a first number on
abbrev pub all_numbered : List ℕ → ℕ → ℕ → List (List ℕ)
all_numbered word first count = map (numbered word) (range_with_len first count)

-- the parts of a text between line feeds
abbrev pub names_in : List ℕ → List (List ℕ)
names_in text = slice_split (λ b. nat_eq b 10) text

-- each is a valid name, and they are distinct
abbrev pub are_names : List (List ℕ) → Bool
are_names words = list_all is_name words && all_distinct words

abbrev pub named : List (List ℕ) → Option (List (List ℕ))
named words = cond (are_names words) (Some words) None

-- The names that a text specifies for `count` items: numbers if it is empty. None if it specifies another number of
-- names, an invalid name, or a name twice.
abbrev pub item_names : ℕ → List ℕ → Option (List (List ℕ))
item_names count [] = Some (all_numbered (codes "i") 0 count)
item_names count text = cond (nat_eq (length (names_in text)) count) (named (names_in text)) None

-- the first `count` names, padded with empty texts
abbrev pub first_names : ℕ → List (List ℕ) → List (List ℕ)
first_names count names = map (λ i. slice_index_or names i []) (range_with_len 0 count)

-- the names, if they are valid and distinct; otherwise the word with numbers from a first one on
abbrev pub spelled : List ℕ → ℕ → List (List ℕ) → List (List ℕ)
spelled word first names = cond (are_names names) names (all_numbered word first (length names))

-- the names of `count` transactions: numbers
abbrev pub transaction_names : ℕ → List (List ℕ)
transaction_names count = all_numbered (codes "t") 1 count
