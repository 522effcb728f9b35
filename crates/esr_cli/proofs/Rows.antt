-- If the arguments have no fault, each value of an argument has passed the argument's parser.
use Rattle.std.proofs.Common.{◌≡◌, ℕ, Bool, arith, cond, true, false, zero, suc, refl, sym, List, [], ◌∷◌, ◌++◌, length, Option, Some, None, IfSome, is_some, true≢false, fold, find, min, slice_get, ◌&&◌, ◌+◌, ◌||◌, drop, encode_utf8, ne_eqb, bytes_eq, chars}
use Rattle.std.specs.Option.{option_map_or}
use Rattle.clap.specs.Lexer.{long_of, short_of}
use Rattle.clap.specs.Facts.{explicit_source, parser_of_value, unwrap_or_range}
use Rattle.clap.specs.ValueTests.{accepts}
use Rattle.clap.specs.Values.{refused_kind}
use Rattle.clap.specs.Matches.{count_text}
use Rattle.clap.specs.Walk.{count_of, Held, Names, Outcome, Row, Rule, Step, Text, Waiting, Walk, action_of, after_flag, after_step, arg_by_id, arg_by_index, arg_by_long, arg_by_short, at_row, attached_value, bundle, bundle_met, bundle_step, counted, default_rows, first_of, flag_met, has_row, is_empty, is_pending, long_met, long_or_other, more_values, most_values, new_count, nothing_held, one_of, option, option_met, option_word, plain_word, reacted, reading_by, rows_after, settled, settled_rows, short_met, short_or_plain, subcommand_met, subcommand_or_other, takes_several, takes_values, to_positional, used, used_as, used_by_id, values_or_missing, walk, walk_from, walked, walked_from, with_default, with_values, without, word_met, done, plain, refused, trailing, value}
use Rattle.clap.specs.Simple.{Shape}
use Rattle.clap.specs.Kinds.{Kinds, or_else, range_kinds, request_kinds, value_kinds}
use Rattle.std.proofs.lemmas.Slice.Eq.{bytes_eq-Decides}
use Rattle.clap.specs.Takes.{is_given}
use Rattle.clap.specs.Faults.{action_fault, bundle_fault, bundle_step_fault, default_fault, defaults_fault, flag_word_fault, flags_fault, given_default_fault, level_fault, long_fault, option_fault, other_fault, positional_fault, react_fault, repeat_fault, settle_fault, short_fault, step_fault, stray_fault, turn_fault, use_fault, values_fault, walk_fault, word_fault}
use Rattle.clap.specs.declared.builder.action.ArgAction.{ArgAction}
use Rattle.clap.specs.declared.builder.action.ArgAction.TheVariants as action
use Rattle.clap.specs.declared.builder.value_parser.Reading.TheVariants.{AsWritten}
use Rattle.clap.specs.declared.parser.matches.ValueSource.{ValueSource}
use Rattle.clap.specs.declared.parser.matches.ValueSource.TheVariants.{CommandLine, DefaultValue}
use Rattle.clap.specs.declared.error.kind.ErrorKind.TheVariants as kind
use Rattle.esr_cli.proofs.Stops.{first_none, then_none}

-- there is a first value, and it passes the test
abbrev pub HasFirst : (Text → Bool) → List Text → Type 0
HasFirst test [] = ⊥
HasFirst test (v ∷ vs) = test v ≡ true

has_first_more : (test : Text → Bool) (vs ws : List Text) → HasFirst test vs → HasFirst test (vs ++ ws)
has_first_more test [] ws h = absurd h
has_first_more test (v ∷ vs) ws h = h

-- the row, if it is of this name, has a first value that passes the test
abbrev pub IsGood : Text → (Text → Bool) → Row → Type 0
IsGood name test r = bytes_eq r.id name ≡ true → (r.reading ≡ AsWritten) × HasFirst test r.values

abbrev pub AllGood : Text → (Text → Bool) → List Row → Type 0
AllGood name test [] = Unit {0}
AllGood name test (r ∷ rs) = IsGood name test r × AllGood name test rs

-- the argument, if it is of this name, has values that pass the test
pub record IsFit (name : Text) (test : Text → Bool) (a : Rule) : Type 0 where
  pub reading : bytes_eq a.id name ≡ true → reading_by a ≡ AsWritten
  pub uncounted : bytes_eq a.id name ≡ true → action_of a ≡ action.Count → ⊥
  pub given : bytes_eq a.id name ≡ true → (values : List Text)
      → range_kinds (unwrap_or_range a.range).start_inclusive (most_values a) (length values) ≡ []
      → values_fault a (values_or_missing a values) ≡ [] → HasFirst test (values_or_missing a values)
  pub default : bytes_eq a.id name ≡ true → (v : Text) (vs : List Text) → values_fault a (v ∷ vs) ≡ [] → test v ≡ true

abbrev pub AllFit : Text → (Text → Bool) → List Rule → Type 0
AllFit name test [] = Unit {0}
AllFit name test (a ∷ rest) = IsFit name test a × AllFit name test rest

module _ (name : Text) (test : Text → Bool) where
  abbrev Good : List Row → Type 0
  Good = AllGood name test

  abbrev Fit : Rule → Type 0
  Fit = IsFit name test

  append_good : (xs ys : List Row) → Good xs → Good ys → Good (xs ++ ys)
  append_good [] ys gx gy = gy
  append_good (x ∷ xs) ys gx gy = (gx.0, append_good xs ys gx.1 gy)

  at_good : (id : Text) (change : Row → List Row) (missing : List Row) → ((r : Row) → IsGood name test r → Good (change r)) → Good missing
      → (rows : List Row) → Good rows → Good (at_row id change missing rows)
  at_good id change missing changed new [] good = new
  at_good id change missing changed new (r ∷ rs) good = go (bytes_eq r.id id) (at_good id change missing changed new rs good.1)
    where
      go : (b : Bool) → Good (at_row id change missing rs) → Good (cond b (change r ++ rs) (r ∷ at_row id change missing rs))
      go true rest = append_good (change r) rs (changed r good.0) good.1
      go false rest = (good.0, rest)

  without_good : (id : Text) (rows : List Row) → Good rows → Good (without id rows)
  without_good id rows good = at_good id (λ _. []) [] (λ r g. tt) tt rows good

  with_good : (a : Rule) (s : ValueSource) (values : List Text) (rows : List Row) → Fit a → (bytes_eq a.id name ≡ true → HasFirst test values) → Good rows
      → Good (with_values a.id (reading_by a) s values rows)
  with_good a s values rows fit first good = at_good a.id (more_values s values) _
      (λ r g. ((λ same. ((g same).0, has_first_more test r.values values (g same).1)), tt))
      ((λ same. (fit.reading same, first same)), tt) rows good

  count_good : (a : Rule) (n : ℕ) (rows : List Row) → (bytes_eq a.id name ≡ true → ⊥) → Good rows → Good (at_row a.id (new_count CommandLine n) (record {
    id = a.id;
    values = count_text n ∷ [];
    count = Some n;
    source = Some CommandLine;
    reading = reading_by a;
  } ∷ []) rows)
  count_good a n rows other good = at_good a.id (new_count CommandLine n) _
      (λ r g. ((λ same. ((g same).0, has_first_more test r.values (count_text n ∷ []) (g same).1)), tt))
      ((λ same. absurd (other same)), tt) rows good

  used_as_good : (a : Rule) (again : Bool) (raw : List Text) (rows : List Row) → Fit a
      → (bytes_eq a.id name ≡ true → values_fault a raw ≡ [] → HasFirst test raw)
      → (x : ArgAction) → action_of a ≡ x → action_fault x again a raw rows ≡ [] → Good rows → Good (used_as x a.id (reading_by a) raw rows)
  used_as_good a again raw rows fit first action.Set is none good =
      with_good a CommandLine raw (without a.id rows) fit (λ same. first same (then_none (repeat_fault again a.id rows) _ none)) (without_good a.id rows good)
  used_as_good a again raw rows fit first action.SetTrue is none good =
      with_good a CommandLine raw (without a.id rows) fit (λ same. first same (then_none (repeat_fault again a.id rows) _ none)) (without_good a.id rows good)
  used_as_good a again raw rows fit first action.SetFalse is none good =
      with_good a CommandLine raw (without a.id rows) fit (λ same. first same (then_none (repeat_fault again a.id rows) _ none)) (without_good a.id rows good)
  used_as_good a again raw rows fit first action.Append is none good =
      with_good a CommandLine raw rows fit (λ same. first same none) good
  used_as_good a again raw rows fit first action.Count is none good = go raw
    where
      other : bytes_eq a.id name ≡ true → ⊥
      other same = fit.uncounted same is

      go : (values : List Text) → Good (counted a.id (reading_by a) values rows)
      go [] = count_good a (min (count_of a.id rows + 1) 255) (without a.id rows) other (without_good a.id rows good)
      go (v ∷ vs) = with_good a CommandLine (v ∷ vs) (without a.id rows) fit (λ same. absurd (other same)) (without_good a.id rows good)
  used_as_good a again raw rows fit first action.Help is none good = good
  used_as_good a again raw rows fit first action.HelpShort is none good = good
  used_as_good a again raw rows fit first action.HelpLong is none good = good
  used_as_good a again raw rows fit first action.Version is none good = good

  used_good : (a : Rule) (again : Bool) (values : List Text) (rows : List Row) → Fit a → use_fault again a values rows ≡ [] → Good rows → Good (used a values rows)
  used_good a again values rows fit none good =
      let range = first_none (range_kinds (unwrap_or_range a.range).start_inclusive (most_values a) (length values)) _ none in
      used_as_good a again (values_or_missing a values) rows fit (λ same passed. fit.given same values range passed) (action_of a) refl
      (then_none (range_kinds (unwrap_or_range a.range).start_inclusive (most_values a) (length values)) _ none) good

  fit_found : (p : Rule → Bool) (c : List Rule) → AllFit name test c → IfSome (find p c) Fit
  fit_found p [] fit = tt
  fit_found p (a ∷ rest) fit = go (p a) (fit_found p rest fit.1)
    where
      go : (b : Bool) → IfSome (find p rest) Fit → IfSome (cond b (Some a) (find p rest)) Fit
      go true later = fit.0
      go false later = later

  module _ (s : Shape) (fit : AllFit name test s.rules) where
    by_id : (id : Text) → IfSome (arg_by_id s.rules id) Fit
    by_id id = fit_found _ s.rules fit

    settled_good : (h : Held) → settle_fault s.rules s.args_override_self h ≡ [] → Good h.rows → Good (settled s.rules h).rows
    settled_good h none good = go h.pending none
      where
        by : (p : Text × List Text) (a : Option Rule) → IfSome a Fit → option_map_or (λ a. use_fault s.args_override_self a p.1 h.rows) a [] ≡ [] → Good (used_by_id a p.1 h.rows)
        by p None fits passed = good
        by p (Some a) fits passed = used_good a s.args_override_self p.1 h.rows fits passed good

        go : (o : Option (Text × List Text)) → option_map_or (λ p. option_map_or (λ a. use_fault s.args_override_self a p.1 h.rows) (arg_by_id s.rules p.0) []) o [] ≡ []
            → Good (settled_rows s.rules o h.rows)
        go None passed = good
        go (Some p) passed = by p (arg_by_id s.rules p.0) (by_id p.0) passed

    reacted_good : (a : Rule) (values : List Text) (h : Held) → Fit a → react_fault s.rules s.args_override_self a values h ≡ [] → Good h.rows → Good (reacted s.rules a values h).rows
    reacted_good a values h fits none good = used_good a s.args_override_self values (settled s.rules h).rows fits
        (then_none (settle_fault s.rules s.args_override_self h) _ none) (settled_good h (first_none (settle_fault s.rules s.args_override_self h) _ none) good)

    option_good : (a : Rule) (v : Option Text) (h : Held) → Fit a → option_fault s.rules s.args_override_self a v h ≡ [] → Good h.rows → Good (option_met s.rules a v h).0.rows
    option_good a (Some v) h fits none good = reacted_good a (v ∷ []) h fits none good
    option_good a None h fits none good = settled_good h none good

    long_good : (o : Option Rule) (v : Option Text) (h : Held) → IfSome o Fit → long_fault s.rules s.args_override_self o v h ≡ [] → Good h.rows → Good (long_met s.rules o v h).0.rows
    long_good None v h fits none good = good
    long_good (Some a) v h fits none good = go (takes_values a) none
      where
        flag : (v : Option Text) → cond (is_some v) (kind.TooManyValues ∷ []) (react_fault s.rules s.args_override_self a [] h) ≡ [] → Good (flag_met s.rules a v h).0.rows
        flag (Some v) passed = good
        flag None passed = reacted_good a [] h fits passed good

        go : (b : Bool) → cond b (option_fault s.rules s.args_override_self a v h) (cond (is_some v) (kind.TooManyValues ∷ []) (react_fault s.rules s.args_override_self a [] h)) ≡ []
            → Good (cond b (option_met s.rules a v h) (flag_met s.rules a v h)).0.rows
        go true passed = option_good a v h fits passed good
        go false passed = flag v passed

    short_good : (o : Option Rule) (rest : Text) (h : Held) (go_on : Held → Held × Outcome) (faults : Held → Kinds) → IfSome o Fit
        → ((h' : Held) → faults h' ≡ [] → Good h'.rows → Good (go_on h').0.rows)
        → short_fault s.rules s.args_override_self o rest h faults ≡ [] → Good h.rows → Good (short_met s.rules o rest h go_on).0.rows
    short_good None rest h go_on faults fits later none good = good
    short_good (Some a) rest h go_on faults fits later none good = go (takes_values a) none
      where
        go : (b : Bool) → cond b (option_fault s.rules s.args_override_self a (attached_value rest) h)
            (or_else (react_fault s.rules s.args_override_self a [] h) (faults (reacted s.rules a [] h))) ≡ []
            → Good (cond b (option_met s.rules a (attached_value rest) h) (go_on (reacted s.rules a [] h))).0.rows
        go true passed = option_good a (attached_value rest) h fits passed good
        go false passed = later (reacted s.rules a [] h) (then_none (react_fault s.rules s.args_override_self a [] h) _ passed)
            (reacted_good a [] h fits (first_none (react_fault s.rules s.args_override_self a [] h) _ passed) good)

    step_good : (k : ℕ) (x : Option ℕ) (flags : Text) (skip : ℕ) (so_far : Outcome) (h : Held)
        → ((flags : Text) (skip : ℕ) (so_far : Outcome) (h : Held) → flags_fault s.rules s.args_override_self k flags skip h ≡ [] → Good h.rows → Good (bundle_met s.rules k flags skip so_far h).0.rows)
        → bundle_step_fault s.rules s.args_override_self x flags skip h (flags_fault s.rules s.args_override_self k) ≡ [] → Good h.rows
        → Good (bundle_step s.rules x flags skip so_far h (bundle_met s.rules k)).0.rows
    step_good k None flags skip so_far h later none good = good
    step_good k (Some x) flags zero so_far h later none good =
        let rest = drop (length (encode_utf8 x)) flags in
        short_good (arg_by_short s.rules x) rest h (bundle_met s.rules k rest 0 done) (flags_fault s.rules s.args_override_self k rest 0) (fit_found _ s.rules fit)
        (λ h' passed g. later rest 0 done h' passed g) none good
    step_good k (Some x) flags (suc skip) so_far h later none good = later (drop (length (encode_utf8 x)) flags) skip so_far h none good

    bundle_good : (k : ℕ) (flags : Text) (skip : ℕ) (so_far : Outcome) (h : Held) → flags_fault s.rules s.args_override_self k flags skip h ≡ [] → Good h.rows
        → Good (bundle_met s.rules k flags skip so_far h).0.rows
    unfolding flags_fault bundle_met
    bundle_good zero flags skip so_far h none good = good
    bundle_good (suc k) flags skip so_far h none good = step_good k (slice_get (chars flags) 0) flags skip so_far h (bundle_good k) none good

    plain_good : (waiting : Waiting) (word : Text) (h : Held) → Good h.rows → Good (plain_word s.rules waiting word h).0.rows
    plain_good (option id) word h good = go (arg_by_id s.rules id)
      where
        go : (a : Option Rule) → Good (option_word a id word h).0.rows
        go None = good
        go (Some a) = good
    plain_good _ word h good = good

    flag_good : (waiting : Waiting) (word : Text) (h : Held) (o : Outcome) → Good h.rows → Good (after_flag s.rules waiting word h o).0.rows
    flag_good waiting word h plain good = plain_good waiting word h good
    flag_good waiting word h refused good = plain_good waiting word h good
    flag_good waiting word h _ good = good

    long_or_good : (waiting : Waiting) (word : Text) (long : Option (Text × Option Text)) (h : Held) → flag_word_fault s.rules s.args_override_self long word h ≡ [] → Good h.rows
        → Good (long_or_other s.rules waiting word long h).0.rows
    long_or_good waiting word (Some p) h none good =
        flag_good waiting word _ (long_met s.rules (arg_by_long s.rules p.0) p.1 h).1 (long_good (arg_by_long s.rules p.0) p.1 h (fit_found _ s.rules fit) none good)
    long_or_good waiting word None h none good = go (short_of word) none
      where
        go : (flags : Option Text) → option_map_or (λ flags. bundle_fault s.rules s.args_override_self flags h) flags [] ≡ [] → Good (short_or_plain s.rules waiting word flags h).0.rows
        go (Some flags) passed = flag_good waiting word _ (bundle s.rules flags h).1 (bundle_good (length flags) flags h.skip plain (record h { skip = 0 }) passed good)
        go None passed = plain_good waiting word h good

    other_good : (met : Option Text) (waiting : Waiting) (position : ℕ) (word : Text) (h : Held) → other_fault s met word h ≡ [] → Good h.rows
        → Good (subcommand_or_other s.rules met waiting position word h).0.rows
    other_good (Some name) waiting position word h none good = good
    other_good None waiting position word h none good = go (bytes_eq word (45 ∷ 45 ∷ [])) none
      where
        go : (b : Bool) → cond b [] (flag_word_fault s.rules s.args_override_self (long_of word) word h) ≡ []
            → Good (cond b (h, trailing position) (long_or_other s.rules waiting word (long_of word) h)).0.rows
        go true passed = good
        go false passed = long_or_good waiting word (long_of word) h passed good

    word_good : (names : Names) (trails : Bool) (waiting : Waiting) (position : ℕ) (word : Text) (h : Held) → word_fault s names trails waiting word h ≡ [] → Good h.rows
        → Good (word_met s.rules names trails waiting position word h).0.rows
    word_good names true waiting position word h none good = good
    word_good names false waiting position word h none good = other_good (subcommand_met names waiting word) waiting position word h none good

    positional_good : (a : Option Rule) (word : Text) (w : Walk) (h : Held) → option_map_or (λ a. positional_fault s.rules s.args_override_self a h) a (stray_fault s) ≡ [] → Good h.rows
        → Good (to_positional s.rules a word w h).held.rows
    positional_good None word w h none good = good
    positional_good (Some a) word w h none good = go (is_pending a h.pending && takes_several a) none
      where
        go : (b : Bool) → cond b [] (settle_fault s.rules s.args_override_self h) ≡ [] → Good (cond b h (settled s.rules h)).rows
        go true passed = good
        go false passed = settled_good h passed good

    after_good : (word : Text) (w : Walk) (h : Held) (step : Step) → step_fault s w.position h step ≡ [] → Good h.rows → Good (after_step s.rules word w h step).held.rows
    after_good word w h value none good = positional_good (arg_by_index s.rules w.position) word w h none good
    after_good word w h _ none good = good

    turn_good : (names : Names) (w : Walk) (word : Text) → turn_fault s names w word ≡ [] → Good w.held.rows → Good (walked s.rules names w word).held.rows
    unfolding walked
    turn_good names w word none good = go w.stopped none
      where
        go : (stop : Option (Text × List Text)) → cond (is_some stop) [] (or_else (word_fault s names w.is_trailing w.waiting word w.held)
            (step_fault s w.position (word_met s.rules names w.is_trailing w.waiting w.position word w.held).0 (word_met s.rules names w.is_trailing w.waiting w.position word w.held).1)) ≡ []
            → Good (walked_from s.rules names stop w word).held.rows
        go (Some p) passed = good
        go None passed = after_good word w _ _ (then_none (word_fault s names w.is_trailing w.waiting word w.held) _ passed)
            (word_good names w.is_trailing w.waiting w.position word w.held (first_none (word_fault s names w.is_trailing w.waiting word w.held) _ passed) good)

    walk_good : (names : Names) (words : List Text) (w : Walk) → walk_fault s names w words ≡ [] → Good w.held.rows → Good (fold (walked s.rules names) w words).held.rows
    unfolding walk_fault
    walk_good names [] w none good = good
    walk_good names (word ∷ rest) w none good = walk_good names rest (walked s.rules names w word) (then_none (turn_fault s names w word) _ none)
        (turn_good names w word (first_none (turn_fault s names w word) _ none) good)

  not_empty : (v : Text) (vs : List Text) → is_empty (v ∷ vs) ≡ false
  not_empty v vs = ne_eqb _ _ (λ e. omega arith)

  default_good : (rows : List Row) (a : Rule) → Fit a → default_fault rows a ≡ [] → Good rows → Good (with_default rows a)
  default_good rows a fits none good = go (has_row a.id rows) none
    where
      given : (values : List Text) → cond (is_empty values) [] (given_default_fault a values) ≡ [] → Good (default_rows a.id (reading_by a) values rows)
      given [] passed = good
      given (v ∷ vs) passed =
          let wrong = rw (not_empty v vs) at passed in
          with_good a DefaultValue (v ∷ vs) rows fits (λ same. fits.default same v vs (then_none (request_kinds (action_of a)) (values_fault a (v ∷ vs)) wrong)) good

      go : (b : Bool) → cond (b || is_empty a.defaults) [] (given_default_fault a a.defaults) ≡ [] → Good (cond b rows (default_rows a.id (reading_by a) a.defaults rows))
      go true passed = good
      go false passed = given a.defaults passed

  defaults_good : (rules : List Rule) (rows : List Row) → AllFit name test rules → defaults_fault rows rules ≡ [] → Good rows → Good (fold with_default rows rules)
  unfolding defaults_fault
  defaults_good [] rows fits none good = good
  defaults_good (a ∷ rest) rows fits none good = defaults_good rest (with_default rows a) fits.1 (then_none (default_fault rows a) _ none)
      (default_good rows a fits.0 (first_none (default_fault rows a) _ none) good)

  -- the rows of a level with no fault
  pub level_good : (s : Shape) (words : List Text) → AllFit name test s.rules → level_fault s [] nothing_held words false [] ≡ [] → Good (rows_after s.rules [] words)
  level_good s words fit none =
      let start = walk_fault s [] (walk_from nothing_held) words in
      let end = (walk s.rules [] nothing_held words).held in
      let ended = then_none start _ none in
      let settle = settle_fault s.rules s.args_override_self end in
      let walked_good = walk_good s fit [] words (walk_from nothing_held) (first_none start _ none) tt in
      defaults_good s.rules (settled s.rules end).rows fit (first_none (defaults_fault (settled s.rules end).rows s.rules) _ (then_none settle _ ended))
      (settled_good s fit end (first_none settle _ ended) walked_good)

  -- a value of the name, if it has a row
  pub record HasText (rows : List Row) : Type 0 where
    pub text : Text
    pub first : first_of name rows ≡ Some text
    pub one : one_of name rows ≡ Some text
    pub passes : test text ≡ true

  text_of : (r : Row) (rows : List Row) → find (λ r. bytes_eq r.id name) rows ≡ Some r → r.reading ≡ AsWritten → (values : List Text) → r.values ≡ values → HasFirst test values → HasText rows
  text_of r rows found how [] are first = absurd first
  text_of r rows found how (v ∷ vs) are first = record { text = v; first = rw (found, are) refl; one = rw (found, how, are) refl; passes = first }

  row_good : (rows : List Row) → Good rows → is_some (find (λ r. bytes_eq r.id name) rows) ≡ true
      → (r : Row) × (find (λ r. bytes_eq r.id name) rows ≡ Some r) × (r.reading ≡ AsWritten) × HasFirst test r.values
  row_good [] good there = absurd (true≢false (sym there))
  row_good (r ∷ rs) good there = go (bytes_eq r.id name) refl there (row_good rs good.1)
    where
      go : (b : Bool) → bytes_eq r.id name ≡ b → is_some (cond b (Some r) (find (λ r. bytes_eq r.id name) rs)) ≡ true
          → (is_some (find (λ r. bytes_eq r.id name) rs) ≡ true → (r : Row) × (find (λ r. bytes_eq r.id name) rs ≡ Some r) × (r.reading ≡ AsWritten) × HasFirst test r.values)
          → (q : Row) × (cond b (Some r) (find (λ r. bytes_eq r.id name) rs) ≡ Some q) × (q.reading ≡ AsWritten) × HasFirst test q.values
      go true same any later = (r, refl, (good.0 same).0, (good.0 same).1)
      go false same any later = later any

  pub has_text : (rows : List Row) → Good rows → is_some (find (λ r. bytes_eq r.id name) rows) ≡ true → HasText rows
  has_text rows good there =
      let got = row_good rows good there in
      text_of got.0 rows got.1 got.2 got.0.values refl got.3

-- an argument that is set has a row
pub given_there : (id : Text) (rows : List Row) → is_given id rows ≡ true → is_some (find (λ r. bytes_eq r.id id) rows) ≡ true
given_there id rows given = go (find (λ r. bytes_eq r.id id) rows) given
  where
    go : (o : Option Row) → option_map_or (λ r. explicit_source r.source) o false ≡ true → is_some o ≡ true
    go None h = h
    go (Some r) h = refl

abbrev IsThere : Text → List Row → Type 0
IsThere id rows = is_some (find (λ r. bytes_eq r.id id) rows) ≡ true

there_or_later : (id : Text) (r : Row) (rs : List Row) → (has_row id rs ≡ true → IsThere id rs) → (b : Bool) → (b || has_row id rs) ≡ true
    → is_some (cond b (Some r) (find (λ r. bytes_eq r.id id) rs)) ≡ true
there_or_later id r rs later true h = refl
there_or_later id r rs later false h = later h

any_there : (id : Text) (rows : List Row) → has_row id rows ≡ true → IsThere id rows
any_there id [] any = absurd (true≢false (sym any))
any_there id (r ∷ rs) any = there_or_later id r rs (any_there id rs) (bytes_eq r.id id) any

more_there : (id other : Text) (s : ValueSource) (values : List Text) (missing rows : List Row) → IsThere id rows → IsThere id (at_row other (more_values s values) missing rows)
more_there id other s values missing [] there = absurd (true≢false (sym there))
more_there id other s values missing (r ∷ rs) there = go (bytes_eq r.id other) (more_there id other s values missing rs)
  where
    here : (b : Bool) (q : Row) → is_some (cond b (Some r) (find (λ r. bytes_eq r.id id) rs)) ≡ true → is_some (cond b (Some q) (find (λ r. bytes_eq r.id id) rs)) ≡ true
    here true q h = refl
    here false q h = h

    after : (b : Bool) → is_some (cond b (Some r) (find (λ r. bytes_eq r.id id) rs)) ≡ true → (IsThere id rs → IsThere id (at_row other (more_values s values) missing rs))
        → is_some (cond b (Some r) (find (λ r. bytes_eq r.id id) (at_row other (more_values s values) missing rs))) ≡ true
    after true h later = refl
    after false h later = later h

    go : (c : Bool) → (IsThere id rs → IsThere id (at_row other (more_values s values) missing rs))
        → IsThere id (cond c (more_values s values r ++ rs) (r ∷ at_row other (more_values s values) missing rs))
    go true later = here (bytes_eq r.id id) _ there
    go false later = after (bytes_eq r.id id) there later

new_there : (s : ValueSource) (values : List Text) (new : Row) (rows : List Row) → IsThere new.id (at_row new.id (more_values s values) (new ∷ []) rows)
new_there s values new [] = rw ((bytes_eq-Decides new.id new.id).1 refl) refl
new_there s values new (r ∷ rs) = go (bytes_eq r.id new.id) refl (new_there s values new rs)
  where
    here : (b : Bool) (q : Row) (rest : Option Row) → b ≡ true → is_some (cond b (Some q) rest) ≡ true
    here true q rest h = refl
    here false q rest h = absurd (true≢false (sym h))

    after : (b : Bool) (q : Row) (rest : Option Row) → is_some rest ≡ true → is_some (cond b (Some q) rest) ≡ true
    after true q rest h = refl
    after false q rest h = h

    go : (c : Bool) → bytes_eq r.id new.id ≡ c → IsThere new.id (at_row new.id (more_values s values) (new ∷ []) rs)
        → IsThere new.id (cond c (more_values s values r ++ rs) (r ∷ at_row new.id (more_values s values) (new ∷ []) rs))
    go true same later = here (bytes_eq r.id new.id) _ _ same
    go false same later = after (bytes_eq r.id new.id) _ _ later

kept_there : (id : Text) (a : Rule) (rows : List Row) → IsThere id rows → IsThere id (with_default rows a)
kept_there id a rows there = go (has_row a.id rows)
  where
    by : (values : List Text) → IsThere id (default_rows a.id (reading_by a) values rows)
    by [] = there
    by (v ∷ vs) = more_there id a.id DefaultValue (v ∷ vs) _ rows there

    go : (b : Bool) → IsThere id (cond b rows (default_rows a.id (reading_by a) a.defaults rows))
    go true = there
    go false = by a.defaults

all_kept : (id : Text) (rules : List Rule) (rows : List Row) → IsThere id rows → IsThere id (fold with_default rows rules)
all_kept id [] rows there = there
all_kept id (a ∷ rest) rows there = all_kept id rest (with_default rows a) (kept_there id a rows there)

defaulted_there : (a : Rule) (v : Text) (vs : List Text) (rows : List Row) → a.defaults ≡ v ∷ vs → IsThere a.id (with_default rows a)
defaulted_there a v vs rows is = go (has_row a.id rows) refl
  where
    by : (values : List Text) → values ≡ v ∷ vs → IsThere a.id (default_rows a.id (reading_by a) values rows)
    by [] none = absurd (cc)
    by (w ∷ ws) some = new_there DefaultValue (w ∷ ws) _ rows

    go : (b : Bool) → has_row a.id rows ≡ b → IsThere a.id (cond b rows (default_rows a.id (reading_by a) a.defaults rows))
    go true any = any_there a.id rows any
    go false any = by a.defaults is

-- an argument with a default has a row
pub default_there : (a : Rule) (v : Text) (vs : List Text) (rest : List Rule) (rows : List Row) → a.defaults ≡ v ∷ vs
    → is_some (find (λ r. bytes_eq r.id a.id) (fold with_default rows (a ∷ rest))) ≡ true
default_there a v vs rest rows is = all_kept a.id rest (with_default rows a) (defaulted_there a v vs rows is)

-- the first value passed the argument's parser
pub first_passes : (a : Rule) (v : Text) (vs : List Text) → values_fault a (v ∷ vs) ≡ [] → accepts a.ignore_case (parser_of_value a.parser) v ≡ true
first_passes a v vs none = go (accepts a.ignore_case (parser_of_value a.parser) v) (first_none (value_kinds a.ignore_case (parser_of_value a.parser) v) _ none)
  where
    go : (b : Bool) → cond b [] (refused_kind (parser_of_value a.parser) ∷ []) ≡ [] → b ≡ true
    go true h = refl
    go false h = absurd (cc)
