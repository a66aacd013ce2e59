-- The bound falls for all turns exactly where it falls at the worst.
use Rattle.std.proofs.Common.{◌≡◌, ℕ, zero, suc, ◌+◌, ◌*◌, ◌-◌, ◌<◌, ◌≤◌, List, [], ◌∷◌, length, inl, inr, refl, ap, ◌∙◌, subst, sym, arith, Option, Some, None, IsTrue}
use Rattle.std.specs.Prelude.{◌↔◌, IfSome, MatchOption, slice_get}
use Rattle.std.specs.Option.{is_some}
use Rattle.std.proofs.Math.Nat.{mul-le-mul_left}
use Rattle.std.proofs.lemmas.Bool.{cases_lt}
use Rattle.sdv_graph.specs.declared.graph.Target.{Target}
use Rattle.sdv_graph.specs.Nested.{Pass, Same, Again, Over, InBox, Turned}
use Rattle.sdv_graph.specs.Path.{left, entered, turns_at}
use Rattle.sdv_facts.specs.Facts.{PointFacts}
use Rattle.sdv_facts.specs.Bounds.{turns_cost, bound, bound_at, BoundFalls}
use Rattle.sdv_check.specs.Turns.{excess, most_after, turn_taken, entering, inside, costs, FallsAtWorst}

one_enough : (a b t n : ℕ) → t ≤ n → a * t ≤ b * t + (a - b) * n
one_enough a b t n le =
    let x : (a - b) * t ≤ (a - b) * n = mul-le-mul_left (a - b) le in
    elim (cases_lt a b) [
      | inl lt ↦ (let z : t * a ≤ t * b = mul-le-mul_left t (omega arith) in omega (arith, z))
      | inr ge ↦ (let e : a ≡ b + (a - b) = omega arith in let z : a * t ≡ (b + (a - b)) * t = ap (λ v. v * t) e in omega (arith, z, x))
    ]

-- the excess is enough at all turns
enough : (ct cs most ts : List ℕ) → InBox ts most → turns_cost ct ts ≤ turns_cost cs ts + excess ct cs most
enough [] cs most ts box = omega arith
enough (a ∷ ct) cs most [] box = omega arith
enough (a ∷ ct) cs [] (t ∷ ts) box = absurd box
enough (a ∷ ct) [] (n ∷ most) (t ∷ ts) box =
    let r = enough ct [] most ts box.1 in let x : a * t ≤ a * n = mul-le-mul_left a box.0 in omega (arith, r, x)
enough (a ∷ ct) (b ∷ cs) (n ∷ most) (t ∷ ts) box =
    let r = enough ct cs most ts box.1 in let x = one_enough a b t n box.0 in omega (arith, r, x)

-- and it is reached at some
record Worst (ct cs most : List ℕ) : Type 0 where
  pub turns : List ℕ
  pub box : InBox turns most
  pub reached : turns_cost ct turns ≡ turns_cost cs turns + excess ct cs most

more_worst : (a b n : ℕ) (ct cs most : List ℕ) → Worst ct cs most → Worst (a ∷ ct) (b ∷ cs) (n ∷ most)
more_worst a b n ct cs most w =
    elim (cases_lt b a) [
      | inl lt ↦ record {
        turns = n ∷ w.turns;
        box = (omega arith, w.box);
        reached = (let e : a ≡ b + (a - b) = omega arith in let z : a * n ≡ (b + (a - b)) * n = ap (λ v. v * n) e in let r = w.reached in omega (arith, z, r));
      }
      | inr ge ↦ record {
        turns = 0 ∷ w.turns;
        box = (omega arith, w.box);
        reached = (let e : a - b ≡ 0 = omega arith in let z : (a - b) * n ≡ 0 * n = ap (λ v. v * n) e in let r = w.reached in omega (arith, z, r));
      }
    ]

abbrev zeros : (most : List ℕ) → (ts : List ℕ) × InBox ts most
zeros [] = ([], tt)
zeros (n ∷ most) = let z = zeros most in (0 ∷ z.0, (omega arith, z.1))

zeros_cost : (cs most : List ℕ) → turns_cost cs (zeros most).0 ≡ 0
zeros_cost [] most = refl
zeros_cost (c ∷ cs) [] = refl
zeros_cost (c ∷ cs) (n ∷ most) = let z = zeros_cost cs most in omega (arith, z)

at_none : (ct cs : List ℕ) → turns_cost ct [] ≡ turns_cost cs [] + 0
at_none [] [] = refl
at_none [] (c ∷ cs) = refl
at_none (a ∷ ct) [] = refl
at_none (a ∷ ct) (c ∷ cs) = refl

worst : (ct cs most : List ℕ) → Worst ct cs most
worst ct cs [] = record { turns = []; box = tt; reached = at_none ct cs }
worst [] cs (n ∷ most) = record { turns = (zeros (n ∷ most)).0; box = (zeros (n ∷ most)).1; reached = (let z = zeros_cost cs (n ∷ most) in omega (arith, z)) }
worst (a ∷ ct) [] (n ∷ most) =
    let w = worst ct [] most in
    record { turns = n ∷ w.turns; box = (omega arith, w.box); reached = (let r = w.reached in omega (arith, r)) }
worst (a ∷ ct) (b ∷ cs) (n ∷ most) = more_worst a b n ct cs most (worst ct cs most)

-- LEAVING LOOPS

left_box : (k : ℕ) (ts most : List ℕ) → InBox ts most → InBox (left k ts) (left k most)
left_box zero ts most box = box
left_box (suc k) [] [] box = tt
left_box (suc k) (t ∷ ts) (n ∷ most) box = left_box k ts most box.1
left_box (suc k) [] (n ∷ most) box = absurd box
left_box (suc k) (t ∷ ts) [] box = absurd box

no_turns : (cs : List ℕ) → turns_cost cs [] ≤ 0
no_turns [] = omega arith
no_turns (c ∷ cs) = omega arith

left_cost : (k : ℕ) (cs ts : List ℕ) → turns_cost (left k cs) (left k ts) ≤ turns_cost cs ts
left_cost zero cs ts = omega arith
left_cost (suc k) [] ts = omega arith
left_cost (suc k) (c ∷ cs) [] = no_turns (left (suc k) (c ∷ cs))
left_cost (suc k) (c ∷ cs) (t ∷ ts) = let r = left_cost k cs ts in omega (arith, r)

-- turns of the loops that stay, with none left of those that are left
record Back (k : ℕ) (cs ts most : List ℕ) : Type 0 where
  pub turns : List ℕ
  pub box : InBox turns most
  pub same : left k turns ≡ ts
  pub value : turns_cost cs turns ≡ turns_cost (left k cs) ts

none_both : (cs ds : List ℕ) → turns_cost cs [] ≡ turns_cost ds []
none_both [] [] = refl
none_both [] (d ∷ ds) = refl
none_both (c ∷ cs) [] = refl
none_both (c ∷ cs) (d ∷ ds) = refl

back : (k : ℕ) (cs ts most : List ℕ) → InBox ts (left k most) → Back k cs ts most
back zero cs ts most box = record { turns = ts; box = box; same = refl; value = refl }
back (suc k) cs [] [] box = record { turns = []; box = tt; same = refl; value = none_both cs (left (suc k) cs) }
back (suc k) cs (t ∷ ts) [] box = absurd box
back (suc k) [] ts (n ∷ most) box =
    let b = back k [] ts most box in record { turns = 0 ∷ b.turns; box = (omega arith, b.box); same = b.same; value = refl }
back (suc k) (c ∷ cs) ts (n ∷ most) box =
    let b = back k cs ts most box in record { turns = 0 ∷ b.turns; box = (omega arith, b.box); same = b.same; value = (let v = b.value in omega (arith, v)) }

pub enter_cost : (o : Option ℕ) (ct us : List ℕ) → turns_cost ct (entered o us) ≡ entering o ct + turns_cost (inside o ct) us
enter_cost None ct us = omega arith
enter_cost (Some n) [] us = refl
enter_cost (Some n) (a ∷ ct) us = refl

-- PASSES

-- turns before and after a pass
record Passes (pass : Pass) (most cs us : List ℕ) : Type 0 where
  pub turns : List ℕ
  pub box : InBox turns most
  pub turned : Turned pass turns us
  pub value : turns_cost cs turns ≡ turn_taken pass cs + turns_cost cs us

again_value : (cs : List ℕ) (t : ℕ) (ts : List ℕ) → turns_cost cs (suc t ∷ ts) ≡ turn_taken Again cs + turns_cost cs (t ∷ ts)
again_value [] t ts = refl
again_value (c ∷ cs) t ts = omega arith

again : (n : ℕ) (most cs us : List ℕ) → InBox us (n ∷ most) → Passes Again (suc n ∷ most) cs us
again n most cs [] box = absurd box
again n most cs (t ∷ us) box = record { turns = suc t ∷ us; box = (omega (arith, box.0), box.1); turned = refl; value = again_value cs t us }

over : (n : ℕ) (most cs us : List ℕ) → InBox us (zero ∷ most) → Passes Over (n ∷ most) cs us
over n most cs [] box = absurd box
over n most cs (zero ∷ us) box = record { turns = zero ∷ us; box = (omega arith, box.1); turned = refl; value = omega arith }
over n most cs (suc t ∷ us) box = absurd (omega (arith, box.0))

before : (pass : Pass) (most m cs us : List ℕ) → most_after pass most ≡ Some m → InBox us m → Passes pass most cs us
before Same most m cs us e box = let same : most ≡ m = cc in
    record { turns = us; box = subst (λ v. InBox us v) (sym same) box; turned = refl; value = omega arith }
before Again [] m cs us e box = absurd (cc)
before Again (zero ∷ most) m cs us e box = absurd (cc)
before Again (suc n ∷ most) m cs us e box = let same : (n ∷ most) ≡ m = cc in again n most cs us (subst (λ v. InBox us v) (sym same) box)
before Over [] m cs us e box = absurd (cc)
before Over (n ∷ most) m cs us e box = let same : (zero ∷ most) ≡ m = cc in over n most cs us (subst (λ v. InBox us v) (sym same) box)

after : (pass : Pass) (most cs ts us : List ℕ) → InBox ts most → Turned pass ts us
    → (m : List ℕ) × (most_after pass most ≡ Some m) × InBox us m × (turns_cost cs ts ≡ turn_taken pass cs + turns_cost cs us)
after Same most cs ts us box e = (most, refl, subst (λ v. InBox v most) e box, subst (λ v. turns_cost cs ts ≡ 0 + turns_cost cs v) e (omega arith))
after Again [] cs (t ∷ ts) us box e = absurd box
after Again most cs [] us box e = absurd e
after Again most cs (zero ∷ ts) us box e = absurd e
after Again (zero ∷ most) cs (suc t ∷ ts) us box e = absurd (omega (arith, box.0))
after Again (suc n ∷ most) cs (suc t ∷ ts) us box e = (
  n ∷ most,
  refl,
  subst (λ v. InBox v (n ∷ most)) e (omega (arith, box.0), box.1),
  subst (λ v. turns_cost cs (suc t ∷ ts) ≡ turn_taken Again cs + turns_cost cs v) e (again_value cs t ts),
)
after Over most cs [] us box e = absurd e
after Over [] cs (t ∷ ts) us box e = absurd box
after Over most cs (suc t ∷ ts) us box e = absurd e
after Over (n ∷ most) cs (zero ∷ ts) us box e = (
  zero ∷ most,
  refl,
  subst (λ v. InBox v (zero ∷ most)) e (omega arith, box.1),
  subst (λ v. turns_cost cs (zero ∷ ts) ≡ 0 + turns_cost cs v) e (omega arith),
)

-- THE CLAUSE

pub worst_is_all : (p q : PointFacts) (most : List ℕ) (sent : ℕ) (pass : Pass) (t : Target) → FallsAtWorst p q most sent pass t
    → BoundFalls p q most sent pass t
worst_is_all p q most sent pass t falls ts us box turned =
    let cs = costs p in
    let ct = costs q in
    let a = after pass most cs ts us box turned in
    let w = subst (λ o. IfSome o (λ m. q.base + sent + entering t.enter ct + excess (inside t.enter ct) (left t.leave cs) (left t.leave m)
    ≤ p.base + turn_taken pass cs)) a.1 falls.worst in
    let l = left_cost t.leave cs us in
    let x = enough (inside t.enter ct) (left t.leave cs) (left t.leave a.0) (left t.leave us) (left_box t.leave us a.0 a.2) in
    let y = enter_cost t.enter ct (left t.leave us) in
    let z = a.3 in
    omega (arith, w, l, x, y, z)

all_at : (p q : PointFacts) (most : List ℕ) (sent : ℕ) (pass : Pass) (t : Target) (o : Option (List ℕ)) → most_after pass most ≡ o
    → BoundFalls p q most sent pass t →
    IfSome o (λ m. q.base + sent + entering t.enter (costs q) + excess (inside t.enter (costs q)) (left t.leave (costs p)) (left t.leave m)
    ≤ p.base + turn_taken pass (costs p))
all_at p q most sent pass t None e f = tt
all_at p q most sent pass t (Some m) e f =
    let cs = costs p in
    let ct = costs q in
    let w = worst (inside t.enter ct) (left t.leave cs) (left t.leave m) in
    let b = back t.leave cs w.turns m w.box in
    let s = before pass most m cs b.turns e b.box in
    let x = f s.turns b.turns s.box s.turned in
    let r = w.reached in
    let y = enter_cost t.enter ct (left t.leave b.turns) in
    let y' = subst (λ v. turns_cost ct (entered t.enter (left t.leave b.turns)) ≡ entering t.enter ct + turns_cost (inside t.enter ct) v) b.same y in
    let v = b.value in
    let u = s.value in
    omega (arith, x, r, y', v, u)

all_is_worst : (p q : PointFacts) (most : List ℕ) (sent : ℕ) (pass : Pass) (t : Target) → BoundFalls p q most sent pass t → FallsAtWorst p q most sent pass t
all_is_worst p q most sent pass t f = record { worst = all_at p q most sent pass t (most_after pass most) refl f }

pub falls_exactly : (p q : PointFacts) (most : List ℕ) (sent : ℕ) (pass : Pass) (t : Target)
    → FallsAtWorst p q most sent pass t ↔ BoundFalls p q most sent pass t
falls_exactly p q most sent pass t = (worst_is_all p q most sent pass t, all_is_worst p q most sent pass t)

-- THE START

none_left : (k : ℕ) → left k [] ≡ []
none_left zero = refl
none_left (suc k) = refl

no_turns_cost : (cs : List ℕ) → turns_cost cs [] ≡ 0
no_turns_cost [] = refl
no_turns_cost (c ∷ cs) = refl

bound_begun : (p : PointFacts) (t : Target) → p.base + entering t.enter (costs p) ≡ bound p (turns_at t [])
bound_begun p t =
    let x = enter_cost t.enter (costs p) [] in
    let y = no_turns_cost (inside t.enter (costs p)) in
    let z : p.base + entering t.enter (costs p) ≡ bound p (entered t.enter []) = omega (arith, x, y) in
    subst (λ us. p.base + entering t.enter (costs p) ≡ bound p (entered t.enter us)) (sym (none_left t.leave)) z

-- the bound at point 0, with all turns of a loop that begins there
pub bound_first : (ps : List PointFacts) (p : PointFacts) (t : Target) (n : ℕ) → slice_get ps 0 ≡ Some p → n ≡ entering t.enter (costs p)
    → p.base + n ≡ bound_at (slice_get ps 0) (turns_at t [])
bound_first ps p t n there is =
    subst (λ o. p.base + n ≡ bound_at o (turns_at t [])) (sym there) (subst (λ m. p.base + m ≡ bound p (turns_at t [])) (sym is) (bound_begun p t))

-- WHERE NO LOOP IS LEFT

no_excess : (ct cs : List ℕ) (n : ℕ) → excess ct cs (left n []) ≡ 0
no_excess ct cs n = ap (excess ct cs) (none_left n)

room_there : (bound other : ℕ) (room : Option ℕ) → MatchOption room (bound < other) (λ r. other + r ≡ bound) → IsTrue (is_some room) ↔ (other ≤ bound)
room_there bound other None h = ((λ t. absurd (cc)), (λ le. absurd (omega (arith, le, h))))
room_there bound other (Some r) h = ((λ t. omega (arith, h)), (λ le. refl))

falls_here : (p q : PointFacts) (sent : ℕ) (t : Target) (room : Option ℕ) (bound other : ℕ) → bound ≡ p.base + 0
    → other ≡ q.base + sent + entering t.enter (costs q)
    → MatchOption room (bound < other) (λ r. other + r ≡ bound) → IsTrue (is_some room) ↔ FallsAtWorst p q [] sent Same t
falls_here p q sent t room bound other from to h =
    let there = room_there bound other room h in
    let over : ℕ = excess (inside t.enter (costs q)) (left t.leave (costs p)) (left t.leave []) in
    let e : over ≡ 0 = no_excess (inside t.enter (costs q)) (left t.leave (costs p)) t.leave in
    let up : other ≤ bound → q.base + sent + entering t.enter (costs q) + over ≤ p.base + 0 = λ le. omega (arith, le, e, from, to) in
    let down : q.base + sent + entering t.enter (costs q) + over ≤ p.base + 0 → other ≤ bound = λ le. omega (arith, le, e, from, to) in
    ((λ i. record { worst = up (there.0 i) }), (λ f. there.1 (down f.worst)))

none_there : (xs : List ℕ) → length xs ≡ 0 → xs ≡ []
none_there [] e = refl
none_there (x ∷ xs) e = absurd (omega (arith, e))

-- the bound falls where there is room for what is sent
pub falls_alone : (p q : PointFacts) (most : List ℕ) (sent : ℕ) (pass : Pass) (t : Target) (room : Option ℕ) (bound other : ℕ) → length most ≡ 0 → pass ≡ Same
    → bound ≡ p.base + turn_taken pass (costs p) → other ≡ q.base + sent + entering t.enter (costs q)
    → MatchOption room (bound < other) (λ r. other + r ≡ bound) → IsTrue (is_some room) ↔ FallsAtWorst p q most sent pass t
falls_alone p q most sent pass t room bound other none same from to h =
    let here = falls_here p q sent t room bound other (from ∙ ap (λ v. p.base + turn_taken v (costs p)) same) to h in
    subst (λ v. IsTrue (is_some room) ↔ FallsAtWorst p q v sent pass t) (sym (none_there most none))
    (subst (λ v. IsTrue (is_some room) ↔ FallsAtWorst p q [] sent v t) (sym same) here)
