-- Where clap finds no fault in the words of a command whose arguments take one word each, every
-- required one has a text.
use Rattle.std.proofs.Common.{◌≡◌, ◌∙◌, ◌⊎◌, ◌<◌, ℕ, zero, suc, Bool, true, false, not, ◌&&◌, ◌||◌, cond, refl, arith, inl, inr, List, [], ◌∷◌, ◌++◌, length, Option, Some, None, is_some, length-append}
use Rattle.std.specs.Prelude.{find, fold, slice_get, drop, option_and_then, encode_utf8, IfSome}
use Rattle.std.specs.Option.{option_map_or}
use Rattle.std.specs.List.{AllByRecursion, list_any}
use Rattle.std.specs.Str.{bytes_eq, chars}
use Rattle.clap.specs.Values.{is_request}
use Rattle.clap.specs.Facts.{explicit_source, unwrap_or_range}
use Rattle.clap.specs.Kinds.{Kinds, check_kinds, or_else, range_kinds, request_kinds}
use Rattle.clap.specs.Walk.{Held, Names, Outcome, Row, Rule, Step, Text, Waiting, Walk, action_of, after_flag, after_step, arg_by_id, arg_by_index, arg_by_long, arg_by_short, attached_value, at_row, bundle, bundle_met, bundle_step, default_rows, done, finished, first_of, flag_met, has_row, idle, is_pending, long_met, long_or_other, more_values, next, nothing_held, option, option_met, option_word, plain, plain_word, positional, pushed, reacted, reading_by, refused, rows_after, settled, settled_rows, short_met, short_or_plain, subcommand, subcommand_met, subcommand_or_other, takes_several, takes_values, to_positional, trailing, used, used_by_id, value, waits, walk, walk_from, walked, walked_from, with_default, with_values, without, word_met}
use Rattle.clap.specs.Lexer.{long_of, short_of}
use Rattle.clap.specs.Simple.{Shape}
use Rattle.clap.specs.Takes.{is_given}
use Rattle.clap.specs.Faults.{bundle_fault, bundle_step_fault, check_fault, defaults_fault, flag_word_fault, flags_fault, level_fault, long_fault, option_fault, other_fault, positional_fault, react_fault, settle_fault, short_fault, step_fault, stray_fault, turn_fault, use_fault, walk_fault, word_fault}
use Rattle.clap.proofs.FaultLemmas.{request_fault}
use Rattle.clap.specs.declared.error.kind.ErrorKind.TheVariants as kind
use Rattle.clap.specs.declared.builder.action.ArgAction.{ArgAction}
use Rattle.clap.specs.declared.builder.action.ArgAction.TheVariants.{Set, Append, SetTrue, Help, HelpShort, HelpLong, Version}
use Rattle.clap.specs.declared.parser.matches.ValueSource.{ValueSource}
use Rattle.clap.specs.declared.parser.matches.ValueSource.TheVariants.{CommandLine, DefaultValue}
use Rattle.clap.specs.declared.builder.value_parser.Reading.{Reading}

-- no kind comes of two steps only where none comes of either
pub none_of_both : (a b : Kinds) → or_else a b ≡ [] → (a ≡ []) × (b ≡ [])
none_of_both [] b none = (refl, none)
none_of_both (k ∷ ks) b none = cc

-- ---- arguments of one word, and rows with a text

-- the argument takes one value or more in each use, or is a flag that stands for a value, or asks for help or the version
abbrev pub TakesOneWord : Rule → Type 0
TakesOneWord a =
    ((action_of a ≡ Set) × ((unwrap_or_range a.range).start_inclusive ≡ 1))
    ⊎ ((action_of a ≡ Append) × ((unwrap_or_range a.range).start_inclusive ≡ 1))
    ⊎ (((action_of a ≡ SetTrue) × (0 < length a.missing)) ⊎ (is_request (action_of a) ≡ true))

abbrev pub HaveTexts : List Row → Type 0
HaveTexts = AllByRecursion (λ r. 0 < length r.values)

found_rule : (p : Rule → Bool) (c : List Rule) → AllByRecursion TakesOneWord c → IfSome (find p c) TakesOneWord
found_rule p [] each = tt
found_rule p (a ∷ c) each = go (p a) (found_rule p c each.1)
  where
    go : (b : Bool) → IfSome (find p c) TakesOneWord → IfSome (cond b (Some a) (find p c)) TakesOneWord
    go true rest = each.0
    go false rest = rest

changed_texts : (id : Text) (change : Row → List Row) (missing rows : List Row)
    → ((r : Row) (rest : List Row) → 0 < length r.values → HaveTexts rest → HaveTexts (change r ++ rest))
    → HaveTexts missing → HaveTexts rows → HaveTexts (at_row id change missing rows)
changed_texts id change missing [] changed absent have = absent
changed_texts id change missing (r ∷ rows) changed absent have = go (bytes_eq r.id id) (changed_texts id change missing rows changed absent have.1)
  where
    go : (b : Bool) → HaveTexts (at_row id change missing rows) → HaveTexts (cond b (change r ++ rows) (r ∷ at_row id change missing rows))
    go true rest = changed r rows have.0 have.1
    go false rest = (have.0, rest)

added_texts : (id : Text) (how : Reading) (s : ValueSource) (vs : List Text) (rows : List Row) → 0 < length vs
    → HaveTexts rows → HaveTexts (with_values id how s vs rows)
added_texts id how s vs rows some have =
    let more : (r : Row) (rest : List Row) → 0 < length r.values → HaveTexts rest → HaveTexts (more_values s vs r ++ rest) =
    λ r rest has h. (simp length-append (omega (arith, has)), h) in
    changed_texts id (more_values s vs) _ rows more (some, tt) have

given_texts : (id : Text) (how : Reading) (s : ValueSource) (vs : List Text) (rows : List Row) → 0 < length vs
    → HaveTexts rows → HaveTexts (with_values id how s vs (without id rows))
given_texts id how s vs rows some have =
    added_texts id how s vs (without id rows) some (changed_texts id (λ _. []) [] rows (λ r rest has h. h) tt have)

-- ---- one use of an argument

asks : (x : ArgAction) → is_request x ≡ true → request_kinds x ≡ [] → ⊥
asks Help request none = cc
asks HelpShort request none = cc
asks HelpLong request none = cc
asks Version request none = cc
asks _ request none = cc

no_value : (least most : ℕ) → least ≡ 1 → range_kinds least most 0 ≡ [] → ⊥
no_value least most is none = let bad = rw is at none in cc

module _ (c : List Rule) (again : Bool) (each : AllByRecursion TakesOneWord c) where
  used_texts : (a : Rule) (values : List Text) (rows : List Row) → TakesOneWord a → use_fault again a values rows ≡ [] → HaveTexts rows
      → HaveTexts (used a values rows)
  used_texts a [] rows (inl one) none have = absurd (no_value _ _ one.1 (none_of_both _ _ none).0)
  used_texts a (v ∷ vs) rows (inl one) none have = rw one.0 (given_texts a.id _ CommandLine (v ∷ vs) rows (omega arith) have)
  used_texts a [] rows (inr (inl one)) none have = absurd (no_value _ _ one.1 (none_of_both _ _ none).0)
  used_texts a (v ∷ vs) rows (inr (inl one)) none have = rw one.0 (added_texts a.id _ CommandLine (v ∷ vs) rows (omega arith) have)
  used_texts a [] rows (inr (inr (inl flag))) none have = rw flag.0 (given_texts a.id _ CommandLine a.missing rows flag.1 have)
  used_texts a (v ∷ vs) rows (inr (inr (inl flag))) none have = rw flag.0 (given_texts a.id _ CommandLine (v ∷ vs) rows (omega arith) have)
  used_texts a values rows (inr (inr (inr request))) none have =
      let kinds = request_fault (action_of a) again a _ rows request in
      absurd (asks (action_of a) request (kinds ∙ (none_of_both _ _ none).1))

  settled_texts : (h : Held) → settle_fault c again h ≡ [] → HaveTexts h.rows → HaveTexts (settled c h).rows
  settled_texts h none have = go h.pending none
    where
      by_rule : (found : Option Rule) (values : List Text) → IfSome found TakesOneWord → option_map_or (λ a. use_fault again a values h.rows) found [] ≡ []
          → HaveTexts (used_by_id found values h.rows)
      by_rule None values one none = have
      by_rule (Some a) values one none = used_texts a values h.rows one none have

      go : (p : Option (Text × List Text)) → option_map_or (λ p. option_map_or (λ a. use_fault again a p.1 h.rows) (arg_by_id c p.0) []) p [] ≡ []
          → HaveTexts (settled_rows c p h.rows)
      go None none = have
      go (Some p) none = by_rule (arg_by_id c p.0) p.1 (found_rule _ c each) none

  reacted_texts : (a : Rule) (values : List Text) (h : Held) → TakesOneWord a → react_fault c again a values h ≡ [] → HaveTexts h.rows
      → HaveTexts (reacted c a values h).rows
  reacted_texts a values h one none have =
      let steps = none_of_both _ _ none in used_texts a values (settled c h).rows one steps.1 (settled_texts h steps.0 have)

  -- ---- one word

  option_texts : (a : Rule) (v : Option Text) (h : Held) → TakesOneWord a → option_fault c again a v h ≡ [] → HaveTexts h.rows
      → HaveTexts (option_met c a v h).0.rows
  option_texts a (Some v) h one none have = reacted_texts a (v ∷ []) h one none have
  option_texts a None h one none have = settled_texts h none have

  long_texts : (found : Option Rule) (v : Option Text) (h : Held) → IfSome found TakesOneWord → long_fault c again found v h ≡ [] → HaveTexts h.rows
      → HaveTexts (long_met c found v h).0.rows
  long_texts None v h one none have = have
  long_texts (Some a) v h one none have = go (takes_values a) v none
    where
      go : (b : Bool) (v : Option Text) → cond b (option_fault c again a v h) (cond (is_some v) (kind.TooManyValues ∷ []) (react_fault c again a [] h)) ≡ []
          → HaveTexts (cond b (option_met c a v h) (flag_met c a v h)).0.rows
      go true v none = option_texts a v h one none have
      go false None none = reacted_texts a [] h one none have
      go false (Some v) none = have

  short_texts : (found : Option Rule) (rest : Text) (h : Held) (after : Held → Held × Outcome) (fault : Held → Kinds)
      → ((h : Held) → fault h ≡ [] → HaveTexts h.rows → HaveTexts (after h).0.rows)
      → IfSome found TakesOneWord → short_fault c again found rest h fault ≡ [] → HaveTexts h.rows → HaveTexts (short_met c found rest h after).0.rows
  short_texts None rest h after fault step one none have = have
  short_texts (Some a) rest h after fault step one none have = go (takes_values a) none
    where
      go : (b : Bool) → cond b (option_fault c again a (attached_value rest) h) (or_else (react_fault c again a [] h) (fault (reacted c a [] h))) ≡ []
          → HaveTexts (cond b (option_met c a (attached_value rest) h) (after (reacted c a [] h))).0.rows
      go true none = option_texts a (attached_value rest) h one none have
      go false none = let steps = none_of_both _ _ none in step (reacted c a [] h) steps.1 (reacted_texts a [] h one steps.0 have)

  flag_texts : (x : Option ℕ) (flags : Text) (skip : ℕ) (so_far : Outcome) (h : Held) (after : Text → ℕ → Outcome → Held → Held × Outcome)
      (fault : Text → ℕ → Held → Kinds)
      → ((flags : Text) (skip : ℕ) (so_far : Outcome) (h : Held) → fault flags skip h ≡ [] → HaveTexts h.rows → HaveTexts (after flags skip so_far h).0.rows)
      → bundle_step_fault c again x flags skip h fault ≡ [] → HaveTexts h.rows → HaveTexts (bundle_step c x flags skip so_far h after).0.rows
  flag_texts None flags skip so_far h after fault step none have = have
  flag_texts (Some x) flags zero so_far h after fault step none have =
      let rest = drop (length (encode_utf8 x)) flags in
      short_texts (arg_by_short c x) rest h (after rest 0 done) (fault rest 0) (step rest 0 done) (found_rule _ c each) none have
  flag_texts (Some x) flags (suc skip) so_far h after fault step none have = step (drop (length (encode_utf8 x)) flags) skip so_far h none have

  bundle_texts : (k : ℕ) (flags : Text) (skip : ℕ) (so_far : Outcome) (h : Held) → flags_fault c again k flags skip h ≡ [] → HaveTexts h.rows
      → HaveTexts (bundle_met c k flags skip so_far h).0.rows
  unfolding bundle_met flags_fault
  bundle_texts zero flags skip so_far h none have = have
  bundle_texts (suc k) flags skip so_far h none have =
      flag_texts (slice_get (chars flags) 0) flags skip so_far h (bundle_met c k) (flags_fault c again k) (bundle_texts k) none have

  plain_texts : (waiting : Waiting) (word : Text) (h : Held) → HaveTexts h.rows → HaveTexts (plain_word c waiting word h).0.rows
  plain_texts idle word h have = have
  plain_texts positional word h have = have
  plain_texts (option id) word h have = go (arg_by_id c id)
    where
      go : (found : Option Rule) → HaveTexts (option_word found id word h).0.rows
      go None = have
      go (Some a) = have

  after_texts : (waiting : Waiting) (word : Text) (h : Held) (o : Outcome) → HaveTexts h.rows → HaveTexts (after_flag c waiting word h o).0.rows
  after_texts waiting word h done have = have
  after_texts waiting word h (waits id) have = have
  after_texts waiting word h plain have = plain_texts waiting word h have
  after_texts waiting word h refused have = plain_texts waiting word h have

  flags_texts : (waiting : Waiting) (word : Text) (flags : Option Text) (h : Held) → option_map_or (λ flags. bundle_fault c again flags h) flags [] ≡ []
      → HaveTexts h.rows
      → HaveTexts (short_or_plain c waiting word flags h).0.rows
  flags_texts waiting word None h none have = plain_texts waiting word h have
  flags_texts waiting word (Some flags) h none have =
      after_texts waiting word (bundle c flags h).0 (bundle c flags h).1 (bundle_texts (length flags) flags h.skip plain (record h { skip = 0 }) none have)

  dashes_texts : (waiting : Waiting) (word : Text) (long : Option (Text × Option Text)) (h : Held) → flag_word_fault c again long word h ≡ [] → HaveTexts h.rows
      → HaveTexts (long_or_other c waiting word long h).0.rows
  dashes_texts waiting word None h none have = flags_texts waiting word (short_of word) h none have
  dashes_texts waiting word (Some p) h none have =
      after_texts waiting word _ (long_met c (arg_by_long c p.0) p.1 h).1 (long_texts (arg_by_long c p.0) p.1 h (found_rule _ c each) none have)

  -- ---- the walk over the words

  stepped_texts : (position : ℕ) (word : Text) (w : Walk) (h : Held) (found : Option Rule)
      → option_map_or (λ a. positional_fault c again a h) found [] ≡ [] → HaveTexts h.rows → HaveTexts (to_positional c found word w h).held.rows
  stepped_texts position word w h None none have = have
  stepped_texts position word w h (Some a) none have = go (is_pending a h.pending && takes_several a) none
    where
      go : (b : Bool) → cond b [] (settle_fault c again h) ≡ [] → HaveTexts (pushed a.id word (cond b h (settled c h))).rows
      go true none = have
      go false none = settled_texts h none have

module _ (s : Shape) (names : Names) (each : AllByRecursion TakesOneWord s.rules) where
  word_texts : (is_trailing : Bool) (waiting : Waiting) (position : ℕ) (word : Text) (h : Held) → word_fault s names is_trailing waiting word h ≡ []
      → HaveTexts h.rows
      → HaveTexts (word_met s.rules names is_trailing waiting position word h).0.rows
  word_texts true waiting position word h none have = have
  word_texts false waiting position word h none have = go (subcommand_met names waiting word) none
    where
      dashes : (b : Bool) → cond b [] (flag_word_fault s.rules s.args_override_self (long_of word) word h) ≡ []
          → HaveTexts (cond b (h, trailing position) (long_or_other s.rules waiting word (long_of word) h)).0.rows
      dashes true none = have
      dashes false none = dashes_texts s.rules s.args_override_self each waiting word (long_of word) h none have

      go : (met : Option Text) → other_fault s met word h ≡ [] → HaveTexts (subcommand_or_other s.rules met waiting position word h).0.rows
      go None none = dashes (bytes_eq word (45 ∷ 45 ∷ [])) none
      go (Some name) none = have

  step_texts : (word : Text) (w : Walk) (h : Held) (step : Step) → step_fault s w.position h step ≡ [] → HaveTexts h.rows
      → HaveTexts (after_step s.rules word w h step).held.rows
  step_texts word w h (next waiting) none have = have
  step_texts word w h (trailing position) none have = have
  step_texts word w h (subcommand name) none have = have
  step_texts word w h value none have = go (arg_by_index s.rules w.position) none
    where
      go : (found : Option Rule) → option_map_or (λ a. positional_fault s.rules s.args_override_self a h) found (stray_fault s) ≡ []
          → HaveTexts (to_positional s.rules found word w h).held.rows
      go None none = have
      go (Some a) none = stepped_texts s.rules s.args_override_self each w.position word w h (Some a) none have

  turn_texts : (w : Walk) (word : Text) → turn_fault s names w word ≡ [] → HaveTexts w.held.rows → HaveTexts (walked s.rules names w word).held.rows
  unfolding walked
  turn_texts w word none have = go w.stopped none
    where
      met : Held × Step
      met = word_met s.rules names w.is_trailing w.waiting w.position word w.held

      go : (stop : Option (Text × List Text)) → cond (is_some stop) [] (or_else (word_fault s names w.is_trailing w.waiting word w.held)
          (step_fault s w.position (word_met s.rules names w.is_trailing w.waiting w.position word w.held).0
          (word_met s.rules names w.is_trailing w.waiting w.position word w.held).1)) ≡ []
          → HaveTexts (walked_from s.rules names stop w word).held.rows
      go (Some p) none = have
      go None none =
          let steps = none_of_both _ _ none in
          step_texts word w _ _ steps.1 (word_texts w.is_trailing w.waiting w.position word w.held steps.0 have)

  pub walk_texts : (words : List Text) (w : Walk) → walk_fault s names w words ≡ [] → HaveTexts w.held.rows
      → HaveTexts (fold (walked s.rules names) w words).held.rows
  unfolding walk_fault
  walk_texts [] w none have = have
  walk_texts (word ∷ words) w none have =
      let steps = none_of_both _ _ none in
      walk_texts words (walked s.rules names w word) steps.1 (turn_texts w word steps.0 have)

-- ---- after the walk

-- what was given has a text
given_text : (id : Text) (rows : List Row) → HaveTexts rows → is_given id rows ≡ true → is_some (first_of id rows) ≡ true
given_text id [] have given = cc
given_text id (r ∷ rows) have given = go (bytes_eq r.id id) given (given_text id rows have.1)
  where
    some : (values : List Text) → 0 < length values → is_some (slice_get values 0) ≡ true
    some [] has = absurd (omega arith)
    some (v ∷ vs) has = refl

    go : (b : Bool) → option_map_or (λ r. explicit_source r.source) (cond b (Some r) (find (λ r. bytes_eq r.id id) rows)) false ≡ true
        → (is_given id rows ≡ true → is_some (first_of id rows) ≡ true)
        → is_some (option_and_then (λ r. slice_get r.values 0) (cond b (Some r) (find (λ r. bytes_eq r.id id) rows))) ≡ true
    go true given rest = some r.values have.0
    go false given rest = rest given

-- defaults are texts
defaulted_texts : (c : List Rule) (rows : List Row) → HaveTexts rows → HaveTexts (fold with_default rows c)
defaulted_texts [] rows have = have
defaulted_texts (a ∷ c) rows have = defaulted_texts c (with_default rows a) (go (has_row a.id rows) a.defaults)
  where
    go : (b : Bool) (defaults : List Text) → HaveTexts (cond b rows (default_rows a.id (reading_by a) defaults rows))
    go true defaults = have
    go false [] = have
    go false (v ∷ vs) = added_texts a.id (reading_by a) DefaultValue (v ∷ vs) rows (omega arith) have

-- the steps of a level of the parse
level_steps : (s : Shape) (names : Names) (words : List Text) (has : Bool) (below : Kinds) → level_fault s names nothing_held words has below ≡ []
    → record {
      over_words : walk_fault s names (walk_from nothing_held) words ≡ [];
      entered : below ≡ [];
      settle : settle_fault s.rules s.args_override_self (walk s.rules names nothing_held words).held ≡ [];
      check : check_fault s (finished s.rules (walk s.rules names nothing_held words).held) has ≡ [];
    }
level_steps s names words has below none =
    let end = (walk s.rules names nothing_held words).held in
    let first = none_of_both (walk_fault s names (walk_from nothing_held) words) _ none in
    let second = none_of_both below _ first.1 in
    let third = none_of_both (settle_fault s.rules s.args_override_self end) _ second.1 in
    let fourth = none_of_both (defaults_fault (settled s.rules end).rows s.rules) _ third.1 in
    record { over_words = first.0; entered = second.0; settle = third.0; check = fourth.1 }

all_wanted : (help wants negates missing : Bool) → check_kinds help wants (not (negates && false) && missing) ≡ [] → missing ≡ false
all_wanted true wants negates missing none = cc
all_wanted false true negates missing none = cc
all_wanted false false negates false none = refl
all_wanted false false true true none = cc
all_wanted false false false true none = cc

-- the rows of a command without subcommands have texts, and what is required is among them
leaf_given : (s : Shape) (words : List Text) → AllByRecursion TakesOneWord s.rules
    → level_fault s [] nothing_held words false [] ≡ []
    → HaveTexts (rows_after s.rules [] words) × (list_any (λ a. a.required && not (is_given a.id (rows_after s.rules [] words))) s.rules ≡ false)
leaf_given s words each none =
    let end = (walk s.rules [] nothing_held words).held in
    let rows = rows_after s.rules [] words in
    let steps = level_steps s [] words false [] none in
    let walked_over : HaveTexts end.rows = walk_texts s [] each words (walk_from nothing_held) steps.over_words tt in
    let all : HaveTexts (settled s.rules end).rows = settled_texts s.rules s.args_override_self each end steps.settle walked_over in
    let missing = list_any (λ a. a.required && not (is_given a.id rows)) s.rules in
    let wants_help = s.arg_required_else_help && not (list_any (λ r. explicit_source r.source) rows) in (
      defaulted_texts s.rules (settled s.rules end).rows all,
      all_wanted wants_help s.subcommand_required s.subcommand_negates_reqs missing steps.check,
    )

either_none : (a b : Bool) → (a || b) ≡ false → (a ≡ false) × (b ≡ false)
either_none true b none = cc
either_none false b none = (refl, none)

wanted_given : (required given : Bool) → (required && not given) ≡ false → required ≡ true → given ≡ true
wanted_given true true none is = refl
wanted_given true false none is = cc
wanted_given false given none is = cc

-- each argument that is required has a text
abbrev pub HaveRequired : List Rule → List Row → Type 0
HaveRequired rules rows = AllByRecursion (λ a. a.required ≡ true → is_some (first_of a.id rows) ≡ true) rules

each_required : (rules : List Rule) (rows : List Row) → HaveTexts rows → list_any (λ a. a.required && not (is_given a.id rows)) rules ≡ false
    → HaveRequired rules rows
each_required [] rows have none = tt
each_required (a ∷ rules) rows have none =
    let both = either_none (a.required && not (is_given a.id rows)) _ none in
    (λ is. given_text a.id rows have (wanted_given a.required (is_given a.id rows) both.0 is), each_required rules rows have both.1)

pub leaf_required : (s : Shape) (words : List Text) → AllByRecursion TakesOneWord s.rules → level_fault s [] nothing_held words false [] ≡ []
    → HaveRequired s.rules (rows_after s.rules [] words)
leaf_required s words each none =
    let given = leaf_given s words each none in each_required s.rules (rows_after s.rules [] words) given.0 given.1

entered_one : (help has required missing : Bool) → required ≡ true → check_kinds help (not has && required) missing ≡ [] → has ≡ true
entered_one help true required missing is none = refl
entered_one true false required missing is none = cc
entered_one false false true missing is none = cc
entered_one false false false missing is none = cc

-- a required subcommand is there, with no fault below it
pub subcommand_given : (s : Shape) (names : Names) (words : List Text) (has : Bool) (below : Kinds) → s.subcommand_required ≡ true
    → level_fault s names nothing_held words has below ≡ [] → (has ≡ true) × (below ≡ [])
subcommand_given s names words has below required none =
    let rows = rows_after s.rules names words in
    let steps = level_steps s names words has below none in
    let wants_help = not has && (s.arg_required_else_help && not (list_any (λ r. explicit_source r.source) rows)) in
    let missing = not (s.subcommand_negates_reqs && has) && list_any (λ a. a.required && not (is_given a.id rows)) s.rules in
    (entered_one wants_help has s.subcommand_required missing required steps.check, steps.entered)
