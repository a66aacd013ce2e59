-- What is read as a script is written so.
use Rattle.std.proofs.Common.{◌≡◌, ℕ, suc, ◌+◌, ◌<◌, ◌≤◌, Bool, true, false, List, [], ◌∷◌, ◌++◌, length, refl, sym, subst, ap, ◌∙◌, arith, cond, append_assoc, Option, Some, None}
use Rattle.std.specs.Prelude.{IfSome, ◌&&◌, nat_lt, nat_le, is_none}
use Rattle.std.specs.Str.{bytes_eq}
use Rattle.std.proofs.lemmas.Bool.{ltb-true, leb-true}
use Rattle.std.proofs.lemmas.List.{append-nil, length-append}
use Rattle.sdv_script.specs.declared.keyword.Keyword.TheVariants as word
use Rattle.sdv_script.specs.Tokens.{Token, Key, Name}
use Rattle.sdv_graph.specs.Tree.{Declared, Statements}
use Rattle.sdv_script.specs.Grammar.{kind_word, names_written, list_written, statements_written, script_written}
use Rattle.sdv_script.specs.Rules.{max_name, max_flags, max_numbers, max_bytes, max_statements, place_from, place_of, AreNew, NamesFit, StatementsFit, statements_count, statements_fall, ScriptFits}
use Rattle.sdv_script.specs.Reading.{progress_to, after_card, read_kind, may_follow, name_is_new, read_names, read_flags, read_nums, read_declared, Whole, whole_if, start, read_statements, read_body, read_script}
use Rattle.sdv_script.proofs.WhereRead.{IfSome-bind, IfSome-given, IfSome-test, IfSome-map, both}
use Rattle.sdv_script.proofs.Taken.{after_card-took, kind-took}
use Rattle.sdv_script.proofs.TakenRows.{statements-took}

-- NEW NAMES

none_of : {A : Type 0} (o : Option A) → is_none o ≡ true → o ≡ None
none_of None e = refl
none_of (Some a) e = absurd cc

test_none : (t : Bool) (k : ℕ) (later : Option ℕ) → cond t (Some k) later ≡ None → (t ≡ false) × (later ≡ None)
test_none true k later e = absurd cc
test_none false k later e = (refl, e)

-- where a name is nowhere, the count does not matter
pub none_from : (j k : ℕ) (name : List ℕ) (names : List (List ℕ)) → place_from j name names ≡ None → place_from k name names ≡ None
unfolding place_from
none_from j k name [] e = refl
none_from j k name (n ∷ ns) e =
    let p = test_none (bytes_eq n name) j (place_from (suc j) name ns) e in
    rw p.0 (none_from (suc j) (suc k) name ns p.1)

pub none_in_both : (k : ℕ) (name : List ℕ) (xs ys : List (List ℕ)) → place_from k name xs ≡ None → place_of name ys ≡ None → place_from k name (xs ++ ys) ≡ None
unfolding place_from
none_in_both k name [] ys p q = none_from 0 k name ys q
none_in_both k name (x ∷ xs) ys p q =
    let r = test_none (bytes_eq x name) k (place_from (suc k) name xs) p in
    rw r.0 (none_in_both (suc k) name xs ys r.1 q)

-- LISTS OF NAMES

pub record NamesTook (earlier names : List (List ℕ)) (limit : ℕ) (ts : List Token) (x : List (List ℕ) × List Token) : Type 0 where
  pub later : List (List ℕ)
  pub all : x.0 ≡ names ++ later
  pub parts : ts ≡ names_written later x.1
  pub new : AreNew (earlier ++ names) later
  pub few : length names ≤ limit → length x.0 ≤ limit
  pub some : 0 < length x.0

pub no_more : (earlier names : List (List ℕ)) (limit : ℕ) (ts : List Token) (f : Bool) → (nat_lt 0 (length names) && f) ≡ true
    → NamesTook earlier names limit ts (names, ts)
no_more earlier names limit ts f e =
    record { later = []; all = sym (append-nil names); parts = refl; new = tt; few = λ le. le; some = ltb-true 0 (length names) (both _ f e).0 }

names_end : (w : Bool) (earlier names : List (List ℕ)) (limit : ℕ) (ts : List Token)
    → IfSome {T = List (List ℕ) × List Token} (cond (nat_lt 0 (length names) && may_follow w ts) (Some (names, ts)) None) (NamesTook earlier names limit ts)
names_end w earlier names limit ts = IfSome-given (nat_lt 0 (length names) && may_follow w ts) _ _ (λ e. no_more earlier names limit ts (may_follow w ts) e)

pub one_name : (earlier names : List (List ℕ)) (limit : ℕ) (n : List ℕ) (ts : List Token) (x : List (List ℕ) × List Token)
    → name_is_new earlier names limit n ≡ true → NamesTook earlier (names ++ n ∷ []) limit ts x → NamesTook earlier names limit (Name n ∷ ts) x
one_name earlier names limit n ts x e took =
    let p = both _ (nat_le (length n) max_name) e in
    let q = both _ (nat_lt (length names) limit) p.0 in
    let r = both (is_none (place_of n earlier)) (is_none (place_of n names)) q.0 in
    let lt = ltb-true (length names) limit q.1 in
    let grown : length (names ++ n ∷ []) ≡ length names + 1 = length-append names (n ∷ []) in
    record {
      later = n ∷ took.later;
      all = took.all ∙ append_assoc names (n ∷ []) took.later;
      parts = ap (λ (rest : List Token). Name n ∷ rest) took.parts;
      new = (
        none_in_both 0 n earlier names (none_of _ r.0) (none_of _ r.1),
        leb-true (length n) max_name p.1,
        subst (λ (before : List (List ℕ)). AreNew before took.later) (sym (append_assoc earlier names (n ∷ []))) took.new,
      );
      few = λ le. took.few (omega arith);
      some = took.some;
    }

names-took : (ts : List Token) (w : Bool) (earlier names : List (List ℕ)) (limit : ℕ)
    → IfSome (read_names w earlier names limit ts) (NamesTook earlier names limit ts)
names-took (Name n ∷ ts) w earlier names limit =
    IfSome-test (name_is_new earlier names limit n) _ _ (λ e.
    IfSome-map (read_names w earlier (names ++ n ∷ []) limit ts) _ _ (names-took ts w earlier (names ++ n ∷ []) limit)
    (λ x p. one_name earlier names limit n ts x e p))
names-took ts w earlier names limit = names_end w earlier names limit ts

flags_listed : (ts : List Token) (x : List (List ℕ) × List Token) → NamesTook [] [] max_flags ts x
    → (Key word.Flags ∷ ts ≡ list_written word.Flags x.0 x.1) × AreNew [] x.0 × (length x.0 ≤ max_flags)
flags_listed ts ([], rest) took = absurd (omega (arith, took.some))
flags_listed ts (n ∷ ns, rest) took = (
  ap (λ (r : List Token). Key word.Flags ∷ r) (took.parts ∙ ap (λ (l : List (List ℕ)). names_written l rest) (sym took.all)),
  subst (λ (l : List (List ℕ)). AreNew [] l) (sym took.all) took.new,
  took.few (omega arith),
)

flags-took : (ts : List Token) → IfSome (read_flags ts) (λ x. (ts ≡ list_written word.Flags x.0 x.1) × AreNew [] x.0 × (length x.0 ≤ max_flags))
flags-took (Key word.Flags ∷ ts) = IfSome-map (read_names true [] [] max_flags ts) _ _ (names-took ts true [] [] max_flags) (flags_listed ts)
flags-took ts = (refl, tt, omega arith)

nums_listed : (flags : List (List ℕ)) (ts : List Token) (x : List (List ℕ) × List Token) → NamesTook flags [] max_numbers ts x
    → (Key word.Nums ∷ ts ≡ list_written word.Nums x.0 x.1) × AreNew flags x.0 × (length x.0 ≤ max_numbers)
nums_listed flags ts ([], rest) took = absurd (omega (arith, took.some))
nums_listed flags ts (n ∷ ns, rest) took = (
  ap (λ (r : List Token). Key word.Nums ∷ r) (took.parts ∙ ap (λ (l : List (List ℕ)). names_written l rest) (sym took.all)),
  subst (λ (l : List (List ℕ)). AreNew flags l) (sym took.all) (subst (λ (before : List (List ℕ)). AreNew before took.later) (append-nil flags) took.new),
  took.few (omega arith),
)

nums-took : (flags : List (List ℕ)) (ts : List Token) → IfSome (read_nums flags ts)
    (λ x. (ts ≡ list_written word.Nums x.0 x.1) × AreNew flags x.0 × (length x.0 ≤ max_numbers))
nums-took flags (Key word.Nums ∷ ts) = IfSome-map (read_names false flags [] max_numbers ts) _ _ (names-took ts false flags [] max_numbers)
    (nums_listed flags ts)
nums-took flags ts = (refl, tt, omega arith)

declared-took : (ts : List Token) → IfSome (read_declared ts)
    (λ d. (ts ≡ Key (kind_word d.0.kind) ∷ list_written word.Flags d.0.flags (list_written word.Nums d.0.numbers d.1)) × NamesFit d.0)
declared-took ts =
    IfSome-bind (read_kind ts) _ _ _ (kind-took ts) (λ k e.
    IfSome-bind (read_flags k.1) _ _ _ (flags-took k.1) (λ f p.
    IfSome-bind (read_nums f.0 f.1) _ _ _ (nums-took f.0 f.1) (λ n q. (
      e ∙ ap (λ (r : List Token). Key (kind_word k.0) ∷ r) (p.0 ∙ ap (λ (r : List Token). list_written word.Flags f.0 r) q.0),
      record { flags_new = p.1; numbers_new = q.1; few_flags = p.2; few_numbers = q.2 },
    ))))

-- SCRIPTS

record BodyTook (names : Declared) (ts : List Token) (w : Whole) : Type 0 where
  same : w.0 ≡ names
  parts : ts ≡ statements_written names w.1 []
  fits : StatementsFit names start w.1
  few : statements_count w.1 ≤ max_statements
  ends : statements_fall w.1 ≡ false

falls_not : (names : Declared) (body : Statements) (ts : List Token) (t : Bool) → statements_fall body ≡ t → ts ≡ statements_written names body []
    → StatementsFit names start body → statements_count body ≤ max_statements
    → IfSome {T = Whole} (cond t None (Some (names, body))) (BodyTook names ts)
falls_not names body ts true f e fits few = tt
falls_not names body ts false f e fits few = record { same = refl; parts = e; fits = fits; few = few; ends = f }

whole-took : (names : Declared) (body : Statements) (ts rest : List Token) → ts ≡ statements_written names body rest → StatementsFit names start body
    → statements_count body ≤ max_statements
    → IfSome (whole_if names body rest) (BodyTook names ts)
whole-took names body ts [] e fits few = falls_not names body ts (statements_fall body) refl e fits few
whole-took names body ts (t ∷ rest) e fits few = tt

body-took : (names : Declared) (ts : List Token) → IfSome (read_body names ts) (BodyTook names ts)
body-took names ts =
    IfSome-bind (read_statements max_bytes names start (progress_to ts 0)) _ _ _ (statements-took max_bytes names start (progress_to ts 0)) (λ b p.
    whole-took names b.0 ts b.1.tokens p.parts p.fits (omega (arith, p.began.counted, p.began.few (omega arith))))

fits_whole : (names : Declared) (ts ts1 ts3 : List Token) (w : Whole) → ts ≡ Key word.Card ∷ ts1
    → ts1 ≡ Key (kind_word names.kind) ∷ list_written word.Flags names.flags (list_written word.Nums names.numbers ts3) → NamesFit names → BodyTook names ts3 w
    → (ts ≡ script_written w.0 w.1) × ScriptFits w.0 w.1
fits_whole names ts ts1 ts3 w e f fit took =
    subst (λ (n : Declared). (ts ≡ script_written n w.1) × ScriptFits n w.1) (sym took.same) (
      e ∙ ap (λ (r : List Token). Key word.Card ∷ r) (f ∙ ap
          (λ (r : List Token). Key (kind_word names.kind) ∷ list_written word.Flags names.flags (list_written word.Nums names.numbers r)) took.parts),
      record { names_fit = fit; statements_fit = took.fits; few = took.few; ends = took.ends },
    )

-- what is read as a script is written so, and fits
pub script-took : (ts : List Token) → IfSome (read_script ts) (λ w. (ts ≡ script_written w.0 w.1) × ScriptFits w.0 w.1)
unfolding read_script
script-took ts =
    IfSome-bind (after_card ts) _ _ _ (after_card-took ts) (λ ts1 e.
    IfSome-bind (read_declared ts1) _ _ _ (declared-took ts1) (λ d p.
    IfSome-map (read_body d.0 d.1) _ _ (body-took d.0 d.1) (λ w q. fits_whole d.0 ts ts1 d.1 w e p.0 p.1 q)))
