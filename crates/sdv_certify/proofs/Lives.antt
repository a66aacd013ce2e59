-- What is reached is live, and what is live leads to what is live.
use Rattle.std.proofs.Common.{◌≡◌, ℕ, zero, suc, ◌+◌, ◌-◌, ◌<◌, List, [], ◌∷◌, ◌++◌, length, Bool, true, false, ◌&&◌, ◌||◌, Some, refl, ap, ◌∙◌, subst, arith, length-append, append_assoc}
use Rattle.std.specs.Prelude.{slice_get}
use Rattle.std.proofs.Math.Seq.{get_or-append_seam}
use Rattle.std.proofs.lemmas.Option.{slice_get-get_or}
use Rattle.sdv_graph.specs.declared.graph.Target.{Target}
use Rattle.sdv_graph.specs.Tree.{Statements, nothing, first, Ways, otherwise, way, Statement, send, phase, setting, choice, set, clear, bus_lines, turns, break, done, fault}
use Rattle.sdv_script.specs.Rules.{statements_count, ways_count, statement_count, statements_break, ways_break, statement_breaks, statements_fall, ways_fall, statement_falls}
use Rattle.sdv_graph.specs.GraphOf.{CanRun}
use Rattle.sdv_graph.specs.Path.{Point}
use Rattle.sdv_graph.specs.Points.{start_of, entry, outside, again, cases_of, other_of, points_of_statements, points_of_ways, points_of_statement, past, points_of}
use Rattle.sdv_graph.specs.Nested.{EachCase, EachTarget}
use Rattle.sdv_graph.proofs.Standing.{or_left, or_right, and_both, not_both}
use Rattle.sdv_certify.specs.Lives.{lives_of_statements, lives_of_ways, lives_of_statement, lives_of, IsLive}

-- TESTS

and_left : (a b : Bool) → a && b ≡ true → a ≡ true
and_left true b e = refl
and_left false b e = absurd (cc)

and_right : (a b : Bool) → a && b ≡ true → b ≡ true
and_right true b e = e
and_right false b e = absurd (cc)

-- WHERE THE ENTRIES OF A PART STAND

-- the entries stand among these from this number on
abbrev HasAt : List Bool → ℕ → List Bool → Type 0
HasAt g at [] = Unit {0}
HasAt g at (p ∷ ps) = (slice_get g at ≡ Some p) × HasAt g (at + 1) ps

has_front : (g : List Bool) (at : ℕ) (a b : List Bool) → HasAt g at (a ++ b) → HasAt g at a
has_front g at [] b h = tt
has_front g at (n ∷ a) b h = (h.0, has_front g (at + 1) a b h.1)

has_back : (g : List Bool) (at : ℕ) (a b : List Bool) → HasAt g at (a ++ b) → HasAt g (at + length a) b
has_back g at [] b h = let e : at ≡ at + 0 = omega arith in subst (λ n. HasAt g n b) e h
has_back g at (n ∷ a) b h =
    let e : at + 1 + length a ≡ at + length (n ∷ a) = omega arith in
    subst (λ n. HasAt g n b) e (has_back g (at + 1) a b h.1)

has_all : (ps before : List Bool) → HasAt (before ++ ps) (length before) ps
has_all [] before = tt
has_all (p ∷ ps) before =
    let within : length before < length (before ++ p ∷ ps) = omega (arith, length-append before (p ∷ ps)) in
    let here = slice_get-get_or (before ++ p ∷ ps) (length before) p within ∙ ap Some (get_or-append_seam before p ps p) in
    let l : length (before ++ p ∷ []) ≡ length before + 1 = omega (arith, length-append before (p ∷ [])) in
    let rest = has_all ps (before ++ p ∷ []) in
    let rest' = subst (λ l. HasAt l (length (before ++ p ∷ [])) ps) (append_assoc before (p ∷ []) ps) rest in
    (here, subst (λ m. HasAt (before ++ p ∷ ps) m ps) l rest')

-- each statement has one entry
mutual
  pub lives_length : (b : Statements) (live : Bool) → length (lives_of_statements b live) ≡ statements_count b
  lives_length nothing live = refl
  lives_length (first s rest) live =
      let then = live && statement_falls s in
      let e = length-append (lives_of_statement s live) (lives_of_statements rest then) in
      let ls = statement_length s live in
      let lr = lives_length rest then in
      omega arith

  ways_length : (c : Ways) (live : Bool) → length (lives_of_ways c live) ≡ ways_count c
  ways_length (otherwise b) live = lives_length b live
  ways_length (way guards b rest) live =
      let e = length-append (lives_of_statements b live) (lives_of_ways rest live) in
      let lb = lives_length b live in
      let lr = ways_length rest live in
      omega arith

  statement_length : (s : Statement) (live : Bool) → length (lives_of_statement s live) ≡ statement_count s
  statement_length (send c ways) live = let l = ways_length ways live in omega arith
  statement_length (phase p a b) live =
      let e = length-append (lives_of_statements a live) (lives_of_statements b live) in
      let la = lives_length a live in
      let lb = lives_length b live in
      omega arith
  statement_length (setting l) live = refl
  statement_length (choice c a b) live =
      let e = length-append (lives_of_statements a live) (lives_of_statements b live) in
      let la = lives_length a live in
      let lb = lives_length b live in
      omega arith
  statement_length (set f) live = refl
  statement_length (clear f) live = refl
  statement_length (bus_lines width) live = refl
  statement_length (turns n a b) live =
      let e = length-append (lives_of_statements a live) (lives_of_statements b live) in
      let la = lives_length a live in
      let lb = lives_length b live in
      omega arith
  statement_length break live = refl
  statement_length done live = refl
  statement_length (fault name) live = refl

has_after : (g : List Bool) (at : ℕ) (b : Statements) (live : Bool) (rest : List Bool) → HasAt g at (lives_of_statements b live ++ rest)
    → HasAt g (at + statements_count b) rest
has_after g at b live rest has =
    subst (λ l. HasAt g (at + l) rest) (lives_length b live) (has_back g at (lives_of_statements b live) rest has)

has_after_first : (g : List Bool) (at : ℕ) (s : Statement) (live : Bool) (rest : List Bool) → HasAt g at (lives_of_statement s live ++ rest)
    → HasAt g (at + statement_count s) rest
has_after_first g at s live rest has =
    subst (λ l. HasAt g (at + l) rest) (statement_length s live) (has_back g at (lives_of_statement s live) rest has)

module _ (g : List Bool) where
  -- a live point
  abbrev Stands : Target → Type 0
  Stands t = slice_get g t.to ≡ Some true

  abbrev Leads : Point → Type 0
  Leads p = EachTarget p.action (λ pass t. Stands t)

  -- each point that is live leads to live ones
  abbrev AllLead : List Point → List Bool → Type 0
  AllLead [] [] = Unit {0}
  AllLead (p ∷ ps) (l ∷ ls) = (l ≡ true → Leads p) × AllLead ps ls
  AllLead ps ls = ⊥

  all_lead_append : (ps qs : List Point) (ls ms : List Bool) → AllLead ps ls → AllLead qs ms → AllLead (ps ++ qs) (ls ++ ms)
  all_lead_append [] qs [] ms a b = b
  all_lead_append [] qs (l ∷ ls) ms a b = absurd a
  all_lead_append (p ∷ ps) qs [] ms a b = absurd a
  all_lead_append (p ∷ ps) qs (l ∷ ls) ms a b = (a.0, all_lead_append ps qs ls ms a.1 b)

  here_live : (at : ℕ) (l : Bool) → slice_get g at ≡ Some l → l ≡ true → slice_get g at ≡ Some true
  here_live at l h e = h ∙ ap Some e

  start_stands : (s : Statement) (at : ℕ) (live : Bool) → HasAt g at (lives_of_statement s live) → live ≡ true → Stands (start_of s at)
  start_stands (send c ways) at live has e = here_live at live has.0 e
  start_stands (phase p a b) at live has e = here_live at live has.0 e
  start_stands (setting l) at live has e = here_live at live has.0 e
  start_stands (choice c a b) at live has e = here_live at live has.0 e
  start_stands (set f) at live has e = here_live at live has.0 e
  start_stands (clear f) at live has e = here_live at live has.0 e
  start_stands (bus_lines width) at live has e = here_live at live has.0 e
  start_stands (turns n a b) at live has e = here_live at live has.0 e
  start_stands break at live has e = here_live at live has.0 e
  start_stands done at live has e = here_live at live has.0 e
  start_stands (fault name) at live has e = here_live at live has.0 e

  -- where a run may come to a list, its first statement is live, or what follows where it has none
  entry_stands : (b : Statements) (at : ℕ) (next : Target) (live : Bool) → HasAt g at (lives_of_statements b live) → live ≡ true
      → (statements_fall b ≡ true → Stands next) → Stands (entry b at next)
  entry_stands nothing at next live has e nx = nx refl
  entry_stands (first s rest) at next live has e nx =
      start_stands s at live (has_front g at (lives_of_statement s live) (lives_of_statements rest (live && statement_falls s)) has) e

  -- the cases of a command lead to their blocks
  cases_stand : (c : Ways) (at : ℕ) (next : Target) (live : Bool) → HasAt g at (lives_of_ways c live) → live ≡ true → (ways_fall c ≡ true → Stands next)
      → EachCase (cases_of c at next) (λ pass t. Stands t) × Stands (other_of c at next)
  cases_stand (otherwise b) at next live has e nx = (tt, entry_stands b at next live has e nx)
  cases_stand (way guards b rest) at next live has e nx =
      let others = lives_of_ways rest live in
      let one = entry_stands b at next live (has_front g at (lives_of_statements b live) others has) e
      (λ x. nx (or_left (statements_fall b) (ways_fall rest) x)) in
      let more = cases_stand rest (at + statements_count b) next live (has_after g at b live others has) e
      (λ x. nx (or_right (statements_fall b) (ways_fall rest) x)) in
      ((one, more.0), more.1)

  -- two blocks, of which one is taken
  blocks_stand : (a b : Statements) (at : ℕ) (next : Target) (live : Bool) → HasAt g at (lives_of_statements a live ++ lives_of_statements b live) → live ≡ true
      → (statements_fall a || statements_fall b ≡ true → Stands next) → Stands (entry a at next) × Stands (entry b (at + statements_count a) next)
  blocks_stand a b at next live has l nx =
      let la = lives_of_statements a live in
      let lb = lives_of_statements b live in (
        entry_stands a at next live (has_front g at la lb has) l (λ x. nx (or_left (statements_fall a) (statements_fall b) x)),
        entry_stands b (at + statements_count a) next live (has_after g at a live lb has) l (λ x. nx (or_right (statements_fall a) (statements_fall b) x)),
      )

  mutual
    statements_lead : (b : Statements) (at : ℕ) (next brk : Target) (most : List ℕ) (live : Bool) → HasAt g at (lives_of_statements b live)
        → (live ≡ true → statements_fall b ≡ true → Stands next) → (live ≡ true → statements_break b ≡ true → Stands brk)
        → AllLead (points_of_statements b at next brk most) (lives_of_statements b live)
    statements_lead nothing at next brk most live has nx br = tt
    statements_lead (first s rest) at next brk most live has nx br =
        let mid = at + statement_count s in
        let to = entry rest mid next in
        let then = live && statement_falls s in
        let ls = lives_of_statement s live in
        let lr = lives_of_statements rest then in
        let back = has_after_first g at s live lr has in
        let falls = λ (l : live ≡ true) (x : statement_falls s ≡ true) (y : statements_fall rest ≡ true). nx l
        (and_both (statement_falls s) (statements_fall rest) x y) in
        all_lead_append (points_of_statement s at to brk most) (points_of_statements rest mid next brk most) ls lr
        (statement_leads s at to brk most live (has_front g at ls lr has)
        (λ l x. entry_stands rest mid next then back (and_both live (statement_falls s) l x) (λ y. falls l x y))
        (λ l x. br l (or_left (statement_breaks s) (statements_break rest) x)))
        (statements_lead rest mid next brk most then back
        (λ l y. falls (and_left live (statement_falls s) l) (and_right live (statement_falls s) l) y)
        (λ l y. br (and_left live (statement_falls s) l) (or_right (statement_breaks s) (statements_break rest) y)))

    ways_lead : (c : Ways) (at : ℕ) (next brk : Target) (most : List ℕ) (live : Bool) → HasAt g at (lives_of_ways c live)
        → (live ≡ true → ways_fall c ≡ true → Stands next) → (live ≡ true → ways_break c ≡ true → Stands brk)
        → AllLead (points_of_ways c at next brk most) (lives_of_ways c live)
    ways_lead (otherwise b) at next brk most live has nx br = statements_lead b at next brk most live has nx br
    ways_lead (way guards b rest) at next brk most live has nx br =
        let mid = at + statements_count b in
        let lb = lives_of_statements b live in
        let lr = lives_of_ways rest live in
        all_lead_append (points_of_statements b at next brk most) (points_of_ways rest mid next brk most) lb lr
        (statements_lead b at next brk most live (has_front g at lb lr has) (λ l x. nx l (or_left (statements_fall b) (ways_fall rest) x))
        (λ l x. br l (or_left (statements_break b) (ways_break rest) x)))
        (ways_lead rest mid next brk most live (has_after g at b live lr has) (λ l x. nx l (or_right (statements_fall b) (ways_fall rest) x))
        (λ l x. br l (or_right (statements_break b) (ways_break rest) x)))

    statement_leads : (s : Statement) (at : ℕ) (next brk : Target) (most : List ℕ) (live : Bool) → HasAt g at (lives_of_statement s live)
        → (live ≡ true → statement_falls s ≡ true → Stands next) → (live ≡ true → statement_breaks s ≡ true → Stands brk)
        → AllLead (points_of_statement s at next brk most) (lives_of_statement s live)
    statement_leads (send c ways) at next brk most live has nx br =
        ((λ l. cases_stand ways (at + 1) next live has.1 l (nx l)), ways_lead ways (at + 1) next brk most live has.1 nx br)
    statement_leads (phase p a b) at next brk most live has nx br =
        let mid = at + 1 + statements_count a in
        let la = lives_of_statements a live in
        let lb = lives_of_statements b live in
        let front = has_front g (at + 1) la lb has.1 in
        let back = has_after g (at + 1) a live lb has.1 in (
          (λ l. blocks_stand a b (at + 1) next live has.1 l (nx l)),
          all_lead_append (points_of_statements a (at + 1) next brk most) (points_of_statements b mid next brk most) la lb
              (statements_lead a (at + 1) next brk most live front (λ l x. nx l (or_left (statements_fall a) (statements_fall b) x))
              (λ l x. br l (or_left (statements_break a) (statements_break b) x)))
              (statements_lead b mid next brk most live back (λ l x. nx l (or_right (statements_fall a) (statements_fall b) x))
              (λ l x. br l (or_right (statements_break a) (statements_break b) x))),
        )
    statement_leads (setting x) at next brk most live has nx br = ((λ l. nx l refl), tt)
    statement_leads (choice c a b) at next brk most live has nx br =
        let mid = at + 1 + statements_count a in
        let la = lives_of_statements a live in
        let lb = lives_of_statements b live in
        let front = has_front g (at + 1) la lb has.1 in
        let back = has_after g (at + 1) a live lb has.1 in (
          (λ l. blocks_stand a b (at + 1) next live has.1 l (nx l)),
          all_lead_append (points_of_statements a (at + 1) next brk most) (points_of_statements b mid next brk most) la lb
              (statements_lead a (at + 1) next brk most live front (λ l x. nx l (or_left (statements_fall a) (statements_fall b) x))
              (λ l x. br l (or_left (statements_break a) (statements_break b) x)))
              (statements_lead b mid next brk most live back (λ l x. nx l (or_right (statements_fall a) (statements_fall b) x))
              (λ l x. br l (or_right (statements_break a) (statements_break b) x))),
        )
    statement_leads (set f) at next brk most live has nx br = ((λ l. nx l refl), tt)
    statement_leads (clear f) at next brk most live has nx br = ((λ l. nx l refl), tt)
    statement_leads (bus_lines width) at next brk most live has nx br = ((λ l. nx l refl), tt)
    statement_leads (turns n a b) at next brk most live has nx br =
        let mid = at + 1 + statements_count a in
        let inner = (n - 1) ∷ most in
        let la = lives_of_statements a live in
        let lb = lives_of_statements b live in
        let front = has_front g (at + 1) la lb has.1 in
        let back = has_after g (at + 1) a live lb has.1 in
        let falls = λ (l : live ≡ true) (x : statements_fall b ≡ true). nx l (or_left (statements_fall b) (statements_break a) x) in (
          (λ l. (entry_stands a (at + 1) (again at) live front l (λ x. here_live at live has.0 l), entry_stands b mid next live back l (falls l))),
          all_lead_append (points_of_statements a (at + 1) (again at) (outside next) inner) (points_of_statements b mid next brk most) la lb
              (statements_lead a (at + 1) (again at) (outside next) inner live front (λ l x. here_live at live has.0 l)
              (λ l x. nx l (or_right (statements_fall b) (statements_break a) x)))
              (statements_lead b mid next brk most live back falls br),
        )
    statement_leads break at next brk most live has nx br = ((λ l. br l refl), tt)
    statement_leads done at next brk most live has nx br = ((λ l. tt), tt)
    statement_leads (fault name) at next brk most live has nx br = ((λ l. tt), tt)

  each_leads : (ps : List Point) (ls : List Bool) (i : ℕ) (p : Point) → AllLead ps ls → slice_get ps i ≡ Some p → slice_get ls i ≡ Some true → Leads p
  each_leads [] ls i p all e h = absurd (cc)
  each_leads (q ∷ ps) [] i p all e h = absurd all
  each_leads (q ∷ ps) (l ∷ ls) zero p all e h =
      let x : q ≡ p = cc in
      let y : l ≡ true = cc in
      subst (λ p. Leads p) x (all.0 y)
  each_leads (q ∷ ps) (l ∷ ls) (suc i) p all e h = each_leads ps ls i p all.1 e h

-- each target of a live point is a live point
pub live_leads : (script : Statements) (i : ℕ) (p : Point) → CanRun script → slice_get (points_of script) i ≡ Some p → IsLive script i
    → EachTarget p.action (λ pass t. IsLive script t.to)
live_leads b i p can here live =
    let g = lives_of b in
    let all = statements_lead g b 0 (past b) (past b) [] true (has_all g []) (λ l x. absurd (not_both (statements_fall b) can.ends x))
    (λ l x. absurd (not_both (statements_break b) can.inside x)) in
    each_leads g (points_of b) g i p all here live
