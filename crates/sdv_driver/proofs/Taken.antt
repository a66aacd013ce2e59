-- What is read as a driver is written so.
use Rattle.std.proofs.Common.{◌≡◌, ℕ, zero, suc, ◌+◌, ◌<◌, ◌≤◌, Bool, true, false, List, [], ◌∷◌, ◌++◌, length, get_or, refl, sym, subst, ap, ◌∙◌, arith, cond, append_assoc, Option, Some, None}
use Rattle.std.specs.Prelude.{IfSome, ◌&&◌, ◌==◌, nat_lt, nat_le, is_none, not}
use Rattle.std.specs.Str.{bytes_eq}
use Rattle.std.proofs.lemmas.Bool.{eqb-true, ltb-true, leb-true}
use Rattle.std.proofs.lemmas.List.{append-nil, length-append}
use Rattle.std.proofs.lemmas.Slice.Eq.{bytes_eq-Decides}
use Rattle.sdv_text.specs.Fronts.{◌>>=◌}
use Rattle.sdv_registers.specs.declared.kind.Kind.{Kind}
use Rattle.sdv_card.specs.declared.state.Partition.{Partition}
use Rattle.sdv_graph.specs.Tree.{Declared, Statements}
use Rattle.sdv_script.specs.Commands.{has_partitions}
use Rattle.sdv_script.specs.Grammar.{kind_word, names_written, list_written, number_name, statements_written}
use Rattle.sdv_script.specs.Reading.{Progress, progress_to, after_open, after_close, read_kind, read_count, read_figure, read_number_name, read_partition, read_statements, name_is_new, start}
use Rattle.sdv_script.specs.Rules.{max_bytes, max_name, max_flags, max_numbers, max_statements, place_of, AreNew, NamesFit, StatementsFit, statements_count, statements_fall}
use Rattle.sdv_script.specs.Tokens.{Token, Key, Name, Mark}
use Rattle.sdv_script.specs.declared.keyword.Keyword.TheVariants as word
use Rattle.sdv_script.specs.declared.token.Sign.TheVariants as sign
use Rattle.sdv_script.proofs.WhereRead.{IfSome-bind, IfSome-given, IfSome-test, IfSome-map, both}
use Rattle.sdv_script.proofs.Taken.{after_open-took, after_close-took, kind-took, figure-took, count-took, partition-took, number_name-took}
use Rattle.sdv_script.proofs.TakenRows.{Began, statements-took}
use Rattle.sdv_script.proofs.TakenScript.{NamesTook, one_name, none_in_both}
use Rattle.sdv_driver.specs.declared.reading.TheConstants.{MAX_ENTRIES}
use Rattle.sdv_driver.specs.declared.tree.Input.{Input}
use Rattle.sdv_driver.specs.declared.tree.Within.{Within}
use Rattle.sdv_driver.specs.declared.words.TheConstants.{DRIVER, ENTRY, BLOCKS}
use Rattle.sdv_driver.specs.Fits.{input_count, EntryFits, EachFits}
use Rattle.sdv_driver.specs.Grammar.{buffer_written, input_written, head_written, access_written, more_written, within_written, entry_written, entries_written, driver_written}
use Rattle.sdv_driver.specs.Names.{is_new, with_number}
use Rattle.sdv_driver.specs.Reading.{read_new, read_names, read_list, read_flags, read_numbers, read_declared, buffer_after, read_buffer, input_with, read_input, read_access, read_more, after_at_most, within_with, read_at_most, read_within, Head, read_head, read_body, entry_with, read_entry, is_end, ends, read_entries, read_driver}
use Rattle.sdv_driver.specs.Rules.{entries_fit}
use Rattle.sdv_driver.specs.Tree.{Entry}
use Rattle.sdv_driver.specs.Words.{after_word, is_reserved}

either : {A : Type 0} (b : Bool) (x y : Option A) (Q : A → Type 0) → IfSome x Q → IfSome y Q → IfSome (cond b x y) Q
either true x y Q p q = p
either false x y Q p q = q

-- WORDS

after_word-took : (which : List ℕ) (ts : List Token) → IfSome (after_word which ts) (λ r. ts ≡ Name which ∷ r)
after_word-took which (Name n ∷ ts) =
    IfSome-given (bytes_eq n which) ts _ (λ e. ap (λ (m : List ℕ). Name m ∷ ts) ((bytes_eq-Decides n which).0 e))
after_word-took which ts = tt

-- NAMES

new-took : (earlier others : List (List ℕ)) (limit : ℕ) (ts : List Token)
    → IfSome (read_new earlier others limit ts) (λ x. (ts ≡ Name x.0 ∷ x.1) × (name_is_new earlier others limit x.0 ≡ true))
new-took earlier others limit (Name n ∷ ts) =
    IfSome-given (is_new earlier others limit n) (n, ts) _ (λ e. (refl, (both (not (is_reserved n)) _ e).1))
new-took earlier others limit ts = tt

names_end : (earlier names : List (List ℕ)) (limit : ℕ) (ts : List Token) → 0 < length names → NamesTook earlier names limit ts (names, ts)
names_end earlier names limit ts lt =
    record { later = []; all = sym (append-nil names); parts = refl; new = tt; few = λ le. le; some = lt }

names-took : (ts : List Token) (earlier names : List (List ℕ)) (limit : ℕ) → 0 < length names
    → IfSome (read_names earlier names limit ts) (NamesTook earlier names limit ts)
names-took (Name n ∷ ts) earlier names limit lt =
    let grown : length (names ++ n ∷ []) ≡ length names + 1 = length-append names (n ∷ []) in
    either (bytes_eq n ENTRY.now) _ _ _ (names_end earlier names limit (Name n ∷ ts) lt)
    (IfSome-test (is_new earlier names limit n) _ _ (λ e.
    IfSome-map (read_names earlier (names ++ n ∷ []) limit ts) _ _ (names-took ts earlier (names ++ n ∷ []) limit (omega arith))
    (λ x p. one_name earlier names limit n ts x (both (not (is_reserved n)) _ e).1 p)))
names-took ts earlier names limit lt = names_end earlier names limit ts lt

list-took : (earlier : List (List ℕ)) (limit : ℕ) (ts : List Token) → IfSome (read_list earlier limit ts) (NamesTook earlier [] limit ts)
list-took earlier limit ts =
    IfSome-bind (read_new earlier [] limit ts) _ _ _ (new-took earlier [] limit ts) (λ n e.
    IfSome-map (read_names earlier (n.0 ∷ []) limit n.1) _ _ (names-took n.1 earlier (n.0 ∷ []) limit (omega arith)) (λ x p.
    subst (λ (us : List Token). NamesTook earlier [] limit us x) (sym e.0) (one_name earlier [] limit n.0 n.1 x e.1 p)))

flags_listed : (ts : List Token) (x : List (List ℕ) × List Token) → NamesTook [] [] max_flags ts x
    → (Key word.Flags ∷ ts ≡ list_written word.Flags x.0 x.1) × AreNew [] x.0 × (length x.0 ≤ max_flags)
flags_listed ts ([], rest) took = absurd (omega (arith, took.some))
flags_listed ts (n ∷ ns, rest) took = (
  ap (λ (r : List Token). Key word.Flags ∷ r) (took.parts ∙ ap (λ (l : List (List ℕ)). names_written l rest) (sym took.all)),
  subst (λ (l : List (List ℕ)). AreNew [] l) (sym took.all) took.new,
  took.few (omega arith),
)

flags-took : (ts : List Token) → IfSome (read_flags ts) (λ x. (ts ≡ list_written word.Flags x.0 x.1) × AreNew [] x.0 × (length x.0 ≤ max_flags))
flags-took (Key word.Flags ∷ ts) = IfSome-map (read_list [] max_flags ts) _ _ (list-took [] max_flags ts) (flags_listed ts)
flags-took ts = (refl, tt, omega arith)

numbers_listed : (flags : List (List ℕ)) (ts : List Token) (x : List (List ℕ) × List Token) → NamesTook flags [] max_numbers ts x
    → (Key word.Nums ∷ ts ≡ list_written word.Nums x.0 x.1) × AreNew flags x.0 × (length x.0 ≤ max_numbers)
numbers_listed flags ts ([], rest) took = absurd (omega (arith, took.some))
numbers_listed flags ts (n ∷ ns, rest) took = (
  ap (λ (r : List Token). Key word.Nums ∷ r) (took.parts ∙ ap (λ (l : List (List ℕ)). names_written l rest) (sym took.all)),
  subst (λ (l : List (List ℕ)). AreNew flags l) (sym took.all) (subst (λ (before : List (List ℕ)). AreNew before took.later) (append-nil flags) took.new),
  took.few (omega arith),
)

numbers-took : (flags : List (List ℕ)) (ts : List Token) → IfSome (read_numbers flags ts)
    (λ x. (ts ≡ list_written word.Nums x.0 x.1) × AreNew flags x.0 × (length x.0 ≤ max_numbers))
numbers-took flags (Key word.Nums ∷ ts) = IfSome-map (read_list flags max_numbers ts) _ _ (list-took flags max_numbers ts) (numbers_listed flags ts)
numbers-took flags ts = (refl, tt, omega arith)

declared-took : (ts : List Token) → IfSome (read_declared ts)
    (λ d. (ts ≡ Key (kind_word d.0.kind) ∷ list_written word.Flags d.0.flags (list_written word.Nums d.0.numbers d.1)) × NamesFit d.0)
declared-took ts =
    IfSome-bind (read_kind ts) _ _ _ (kind-took ts) (λ k e.
    IfSome-bind (read_flags k.1) _ _ _ (flags-took k.1) (λ f p.
    IfSome-bind (read_numbers f.0 f.1) _ _ _ (numbers-took f.0 f.1) (λ n q. (
      e ∙ ap (λ (r : List Token). Key (kind_word k.0) ∷ r) (p.0 ∙ ap (λ (r : List Token). list_written word.Flags f.0 r) q.0),
      record { flags_new = p.1; numbers_new = q.1; few_flags = p.2; few_numbers = q.2 },
    ))))

-- THE HEADS OF ENTRIES

none_of : {A : Type 0} (o : Option A) → is_none o ≡ true → o ≡ None
none_of None e = refl
none_of (Some a) e = absurd cc

-- one name more is new too
new_from : (ns earlier : List (List ℕ)) (n : List ℕ) → AreNew earlier ns → place_of n (earlier ++ ns) ≡ None → length n ≤ max_name
    → AreNew earlier (ns ++ n ∷ [])
new_from [] earlier n fit none le = (subst (λ (l : List (List ℕ)). place_of n l ≡ None) (append-nil earlier) none, le, tt)
new_from (m ∷ ns) earlier n fit none le = (
  fit.0,
  fit.1,
  new_from ns (earlier ++ m ∷ []) n fit.2 (subst (λ (l : List (List ℕ)). place_of n l ≡ None) (sym (append_assoc earlier (m ∷ []) ns)) none) le,
)

-- the names with an input
input_fits : (names : Declared) (n : List ℕ) → NamesFit names → name_is_new names.flags names.numbers max_numbers n ≡ true → NamesFit (with_number names n)
input_fits names n fit e =
    let p = both _ (nat_le (length n) max_name) e in
    let q = both _ (nat_lt (length names.numbers) max_numbers) p.0 in
    let r = both (is_none (place_of n names.flags)) (is_none (place_of n names.numbers)) q.0 in
    let lt = ltb-true (length names.numbers) max_numbers q.1 in
    let grown : length (names.numbers ++ n ∷ []) ≡ length names.numbers + 1 = length-append names.numbers (n ∷ []) in
    record {
      flags_new = fit.flags_new;
      numbers_new = new_from names.numbers names.flags n fit.numbers_new
          (none_in_both 0 n names.flags names.numbers (none_of _ r.0) (none_of _ r.1)) (leb-true (length n) max_name p.1);
      few_flags = fit.few_flags;
      few_numbers = omega arith;
    }

buffer_after-took : (ts : List Token) (o : Option (List Token)) → IfSome o (λ r. ts ≡ Name BLOCKS.now ∷ r)
    → IfSome (buffer_after ts o) (λ b. ts ≡ buffer_written b.0 b.1)
buffer_after-took ts None e = refl
buffer_after-took ts (Some r) e =
    IfSome-bind (read_count r) _ _ _ (count-took r) (λ n p. e ∙ ap (λ (us : List Token). Name BLOCKS.now ∷ us) p.0)

buffer-took : (ts : List Token) → IfSome (read_buffer ts) (λ b. ts ≡ buffer_written b.0 b.1)
buffer-took ts = buffer_after-took ts (after_word BLOCKS.now ts) (after_word-took BLOCKS.now ts)

-- the last name is at the end
last_name : (ns : List (List ℕ)) (n : List ℕ) → get_or (ns ++ n ∷ []) (length ns) [] ≡ n
last_name [] n = refl
last_name (m ∷ ns) n = last_name ns n

record InputTook (names : Declared) (ts : List Token) (x : (Declared × Option Input) × List Token) : Type 0 where
  parts : ts ≡ input_written x.0.0 x.0.1 x.1
  fits : NamesFit x.0.0
  kind : x.0.0.kind ≡ names.kind
  numbers : length x.0.0.numbers ≡ length names.numbers + input_count x.0.1

input_is : (names : Declared) (ts : List Token) (n : List ℕ × List Token) (b : Option ℕ × List Token) → NamesFit names
    → (ts ≡ Name n.0 ∷ n.1) × (name_is_new names.flags names.numbers max_numbers n.0 ≡ true) → n.1 ≡ buffer_written b.0 b.1
    → InputTook names ts (input_with names n.0 b.0, b.1)
input_is names ts n b fit p e = record {
  parts = p.0 ∙ ap (λ (m : List ℕ). Name m ∷ n.1) (sym (last_name names.numbers n.0))
      ∙ ap (λ (us : List Token). Name (get_or (names.numbers ++ n.0 ∷ []) (length names.numbers) []) ∷ us) e;
  fits = input_fits names n.0 fit p.1;
  kind = refl;
  numbers = length-append names.numbers (n.0 ∷ []);
}

input-took : (names : Declared) (ts : List Token) → NamesFit names → IfSome (read_input names ts) (InputTook names ts)
input-took names (Name m ∷ ts) fit =
    IfSome-bind (read_new names.flags names.numbers max_numbers (Name m ∷ ts)) _ _ _ (new-took names.flags names.numbers max_numbers (Name m ∷ ts)) (λ n p.
    IfSome-bind (read_buffer n.1) _ _ _ (buffer-took n.1) (λ b e. input_is names (Name m ∷ ts) n b fit p e))
input-took names ts fit = record { parts = refl; fits = fit; kind = refl; numbers = omega arith }

access-took : (k : Kind) (ts : List Token) → IfSome (read_access k ts) (λ p. ts ≡ access_written p.0 p.1)
access-took k (Key word.PartAccess ∷ ts) =
    IfSome-test (has_partitions k) _ _ (λ e.
    IfSome-bind (read_partition ts) _ _ _ (partition-took ts) (λ p q. ap (λ (us : List Token). Key word.PartAccess ∷ us) q))
access-took k ts = refl

more-took : (ts : List Token) → IfSome (read_more ts) (λ k. ts ≡ more_written k.0 k.1)
more-took (Mark sign.Plus ∷ ts) = IfSome-bind (read_figure ts) _ _ _ (figure-took ts) (λ k p. ap (λ (us : List Token). Mark sign.Plus ∷ us) p.0)
more-took ts = refl

at_most-took : (ts : List Token) → IfSome (after_at_most ts) (λ r. ts ≡ Mark sign.Below ∷ Mark sign.Equals ∷ r)
at_most-took (Mark sign.Below ∷ Mark sign.Equals ∷ ts) = refl
at_most-took ts = tt

abbrev WithinTook : Declared → List Token → Within × List Token → Type 0
WithinTook names ts w = Key word.If ∷ ts ≡ within_written names (Some w.0) w.1

within_with-took : (names : Declared) (ts : List Token) (input : ℕ) (more : Option ℕ) (y : ℕ × List Token)
    → ts ≡ number_name names input ∷ more_written more (Mark sign.Below ∷ Mark sign.Equals ∷ number_name names y.0 ∷ y.1)
    → IfSome (within_with input more y) (WithinTook names ts)
within_with-took names ts input more y e = either (y.0 == input) _ _ _ tt (ap (λ (us : List Token). Key word.If ∷ us) e)

read_at_most-took : (names : Declared) (input : ℕ) (ts : List Token) → IfSome (read_at_most names input ts) (WithinTook names ts)
read_at_most-took names input ts =
    IfSome-bind (read_number_name names ts) _ _ _ (number_name-took names ts) (λ x p.
    IfSome-test (x.0 == input) _ _ (λ same.
    IfSome-bind (read_more x.1) _ _ _ (more-took x.1) (λ k e.
    IfSome-bind (after_at_most k.1) _ _ _ (at_most-took k.1) (λ r f.
    IfSome-bind (read_number_name names r) _ _ _ (number_name-took names r) (λ y q.
    within_with-took names ts input k.0 y (
    p.0 ∙ ap (λ (i : ℕ). number_name names i ∷ x.1) (eqb-true x.0 input same)
    ∙ ap (λ (us : List Token). number_name names input ∷ us) (e ∙ ap (λ (us : List Token). more_written k.0 us)
    (f ∙ ap (λ (us : List Token). Mark sign.Below ∷ Mark sign.Equals ∷ us) q.0))))))))

within-took : (names : Declared) (i : Option Input) (ts : List Token) → IfSome (read_within names i ts) (λ w. ts ≡ within_written names w.0 w.1)
within-took names (Some i) (Key word.If ∷ ts) =
    IfSome-bind (read_at_most names i.place ts) _ _ _ (read_at_most-took names i.place ts) (λ w e. e)
within-took names i ts = refl

-- a head, whatever stands in the braces behind it
record HeadTook (names : Declared) (ts : List Token) (x : Head × List Token) : Type 0 where
  parts : (body : Statements) → ts ≡ head_written (entry_with x.0 body) x.1
  fits : NamesFit x.0.names
  kind : x.0.names.kind ≡ names.kind
  numbers : length x.0.names.numbers ≡ length names.numbers + input_count x.0.input

head_is : (names : Declared) (ts ts1 : List Token) (n : List ℕ × List Token) (i : (Declared × Option Input) × List Token)
    (p : Option Partition × List Token) (w : Option Within × List Token) → ts ≡ Name ENTRY.now ∷ ts1 → ts1 ≡ Name n.0 ∷ n.1
    → InputTook names n.1 i → i.1 ≡ access_written p.0 p.1 → p.1 ≡ within_written i.0.0 w.0 w.1
    → HeadTook names ts (record { name = n.0; names = i.0.0; input = i.0.1; partition = p.0; within = w.0 }, w.1)
head_is names ts ts1 n i p w a b took c d = record {
  parts = λ body. a ∙ ap (λ (us : List Token). Name ENTRY.now ∷ us) (b ∙ ap (λ (us : List Token). Name n.0 ∷ us)
      (took.parts ∙ ap (λ (us : List Token). input_written i.0.0 i.0.1 us) (c ∙ ap (λ (us : List Token). access_written p.0 us) d)));
  fits = took.fits;
  kind = took.kind;
  numbers = took.numbers;
}

head-took : (names : Declared) (earlier : List (List ℕ)) (ts : List Token) → NamesFit names → IfSome (read_head names earlier ts) (HeadTook names ts)
head-took names earlier ts fit =
    IfSome-bind (after_word ENTRY.now ts) _ _ _ (after_word-took ENTRY.now ts) (λ ts1 a.
    IfSome-bind (read_new [] earlier MAX_ENTRIES ts1) _ _ _ (new-took [] earlier MAX_ENTRIES ts1) (λ n b.
    IfSome-bind (read_input names n.1) _ _ _ (input-took names n.1 fit) (λ i took.
    IfSome-bind (read_access i.0.0.kind i.1) _ _ _ (access-took i.0.0.kind i.1) (λ p c.
    IfSome-bind (read_within i.0.0 i.0.1 p.1) _ _ _ (within-took i.0.0 i.0.1 p.1) (λ w d.
    head_is names ts ts1 n i p w a b.0 took c d)))))

-- ENTRIES

record BodyTook (names : Declared) (at : Progress) (x : Statements × Progress) : Type 0 where
  parts : at.tokens ≡ Mark sign.OpenBrace ∷ statements_written names x.0 (Mark sign.CloseBrace ∷ x.1.tokens)
  fits : StatementsFit names start x.0
  began : Began at.begun x.1.begun (statements_count x.0)
  ends : statements_fall x.0 ≡ false

body_is : (names : Declared) (at : Progress) (body : Statements) (after : Progress) (t : Bool) → statements_fall body ≡ t
    → at.tokens ≡ Mark sign.OpenBrace ∷ statements_written names body (Mark sign.CloseBrace ∷ after.tokens)
    → StatementsFit names start body → Began at.begun after.begun (statements_count body)
    → IfSome {T = Statements × Progress} (cond t None (Some (body, after))) (BodyTook names at)
body_is names at body after true f e fits began = tt
body_is names at body after false f e fits began = record { parts = e; fits = fits; began = began; ends = f }

body-took : (names : Declared) (at : Progress) → IfSome (read_body names at) (BodyTook names at)
body-took names at =
    IfSome-bind (after_open start at.tokens) _ _ _ (after_open-took start at.tokens) (λ o p.
    IfSome-bind (read_statements max_bytes names start (progress_to o.1 at.begun)) _ _ _ (statements-took max_bytes names start (progress_to o.1 at.begun)) (λ b q.
    IfSome-bind (after_close b.1.tokens) _ _ _ (after_close-took b.1.tokens) (λ ts e.
    body_is names at b.0 (progress_to ts b.1.begun) (statements_fall b.0) refl
    (p.0 ∙ ap (λ (us : List Token). Mark sign.OpenBrace ∷ us) (q.parts ∙ ap (λ (us : List Token). statements_written names b.0 us) e))
    q.fits q.began)))

-- as many statements were begun as it has
pub body-counted : (names : Declared) (at : Progress) (body : Statements) (after : Progress) → read_body names at ≡ Some (body, after)
    → after.begun ≡ at.begun + statements_count body
body-counted names at body after e =
    (subst (λ (o : Option (Statements × Progress)). IfSome o (BodyTook names at)) e (body-took names at)).began.counted

record EntryTook (names : Declared) (at : Progress) (x : Entry × Progress) : Type 0 where
  parts : at.tokens ≡ entry_written x.0 x.1.tokens
  fits : EntryFits names x.0
  few : x.1.begun ≤ max_statements

entry_is : (names : Declared) (at : Progress) (h : Head × List Token) (b : Statements × Progress) → at.begun ≤ max_statements → HeadTook names at.tokens h
    → BodyTook h.0.names (progress_to h.1 at.begun) b → EntryTook names at (entry_with h.0 b.0, b.1)
entry_is names at h b le p q = record {
  parts = p.parts b.0 ∙ ap (λ (us : List Token). head_written (entry_with h.0 b.0) us) q.parts;
  fits = record {
    kind = p.kind;
    numbers = p.numbers;
    script = record {
      names_fit = p.fits;
      statements_fit = q.fits;
      few = (let all = q.began.few le in omega (arith, q.began.counted));
      ends = q.ends;
    };
  };
  few = q.began.few le;
}

entry-took : (names : Declared) (earlier : List (List ℕ)) (at : Progress) → NamesFit names → at.begun ≤ max_statements
    → IfSome (read_entry names earlier at) (EntryTook names at)
entry-took names earlier at fit le =
    IfSome-bind (read_head names earlier at.tokens) _ _ _ (head-took names earlier at.tokens fit) (λ h p.
    IfSome-bind (read_body h.0.names (progress_to h.1 at.begun)) _ _ _ (body-took h.0.names (progress_to h.1 at.begun)) (λ b q.
    entry_is names at h b le p q))

abbrev EntriesTook : Declared → Progress → List Entry → Type 0
EntriesTook names at es = (at.tokens ≡ entries_written es) × EachFits names es

ends_at : (ts : List Token) (b : Bool) → (is_end ts && b) ≡ true → ts ≡ []
ends_at [] b e = refl
ends_at (t ∷ ts) b e = absurd cc

-- what comes behind the first entry, in so many steps
abbrev Later : (left : ℕ) (names : Declared) → Type 0
Later left names = (earlier : List (List ℕ)) (at : Progress) → at.begun ≤ max_statements → IfSome (read_entries left names earlier at) (EntriesTook names at)

further-took : (left : ℕ) (names : Declared) (earlier : List (List ℕ)) (at : Progress) → NamesFit names → at.begun ≤ max_statements → Later left names
    → IfSome (read_entry names earlier at >>= λ e. read_entries left names (earlier ++ e.0.name ∷ []) e.1 >>= λ rest. Some (e.0 ∷ rest)) (EntriesTook names at)
further-took left names earlier at fit le later =
    IfSome-bind (read_entry names earlier at) _ _ _ (entry-took names earlier at fit le) (λ e p.
    IfSome-bind (read_entries left names (earlier ++ e.0.name ∷ []) e.1) _ _ _ (later (earlier ++ e.0.name ∷ []) e.1 p.few) (λ rest q.
    (p.parts ∙ ap (λ (us : List Token). entry_written e.0 us) q.0, (p.fits, q.1))))

entries_step : (left : ℕ) (names : Declared) (earlier : List (List ℕ)) (at : Progress) (b : Bool) → ends at.tokens earlier ≡ b → NamesFit names
    → at.begun ≤ max_statements → Later left names
    → IfSome (cond b (Some []) (read_entry names earlier at >>= λ e. read_entries left names (earlier ++ e.0.name ∷ []) e.1 >>= λ rest. Some (e.0 ∷ rest)))
    (EntriesTook names at)
entries_step left names earlier at true e fit le later = (ends_at at.tokens _ e, tt)
entries_step left names earlier at false e fit le later = further-took left names earlier at fit le later

entries-took : (left : ℕ) (names : Declared) → NamesFit names → Later left names
unfolding read_entries
entries-took zero names fit earlier at le = tt
entries-took (suc left) names fit earlier at le =
    entries_step left names earlier at (ends at.tokens earlier) refl fit le (entries-took left names fit)

-- DRIVERS

-- what is read as a driver is written so, and each entry fits
pub driver-took : (ts : List Token) → IfSome (read_driver ts) (λ d. (ts ≡ driver_written d) × EachFits d.names d.entries)
unfolding read_driver
driver-took ts =
    IfSome-bind (after_word DRIVER.now ts) _ _ _ (after_word-took DRIVER.now ts) (λ ts1 e.
    IfSome-bind (read_declared ts1) _ _ _ (declared-took ts1) (λ d p.
    IfSome-bind (read_entries (suc MAX_ENTRIES) d.0 [] (progress_to d.1 0)) _ _ _
    (entries-took (suc MAX_ENTRIES) d.0 p.1 [] (progress_to d.1 0) (omega arith)) (λ es q.
    IfSome-given (entries_fit true es) _ _ (λ _. (
      e ∙ ap (λ (us : List Token). Name DRIVER.now ∷ us) (p.0
          ∙ ap (λ (us : List Token). Key (kind_word d.0.kind) ∷ list_written word.Flags d.0.flags (list_written word.Nums d.0.numbers us)) q.0),
      q.1,
    )))))
