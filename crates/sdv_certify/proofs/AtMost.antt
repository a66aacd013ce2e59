-- Forms below other forms, part by part.
use Rattle.std.proofs.Common.{◌≡◌, ℕ, zero, suc, ◌+◌, ◌-◌, ◌*◌, ◌≤◌, max, List, [], ◌∷◌, true, ◌||◌, Option, Some, None, is_some, get_or, refl, ap, arith}
use Rattle.std.proofs.Math.Nat.{mul-le-mul_right}
use Rattle.sdv_facts.specs.Bounds.{turns_cost}
use Rattle.sdv_certify.specs.declared.spans.Spans.{Spans}
use Rattle.sdv_certify.specs.declared.form.Form.{Form}
use Rattle.sdv_certify.specs.Spans.{plus, most, or_zero, seq, either, later, way_out, all_turns}
use Rattle.sdv_certify.specs.Forms.{greatest, greater, either_form, base_of, each_of, last_turn, head_form, before_loop, inside}
use Rattle.sdv_certify.specs.FormsPay.{worth}

pub record AtMost (f g : Form) : Type 0 where
  pub base : f.base ≤ g.base
  pub each : (i : ℕ) → get_or f.each i 0 ≤ get_or g.each i 0

pub at_most_same : (f : Form) → AtMost f f
at_most_same f = record { base = omega arith; each = λ i. omega arith }

pub at_most_twice : (f g h : Form) → AtMost f g → AtMost g h → AtMost f h
at_most_twice f g h p q = record { base = omega (arith, p.base, q.base); each = λ i. (let a = p.each i in let b = q.each i in omega (arith, a, b)) }

pub greatest_at : (xs ys : List ℕ) (i : ℕ) → get_or (greatest xs ys) i 0 ≡ max (get_or xs i 0) (get_or ys i 0)
greatest_at [] ys i = omega arith
greatest_at (x ∷ xs) [] i = omega arith
greatest_at (x ∷ xs) (y ∷ ys) zero = refl
greatest_at (x ∷ xs) (y ∷ ys) (suc i) = greatest_at xs ys i

pub cost_at_most : (xs ys ts : List ℕ) → ((i : ℕ) → get_or xs i 0 ≤ get_or ys i 0) → turns_cost xs ts ≤ turns_cost ys ts
cost_at_most [] ys ts h = omega arith
cost_at_most (x ∷ xs) ys [] h = omega arith
cost_at_most (x ∷ xs) [] (t ∷ ts) h =
    let e : x ≤ 0 = h 0 in
    let f : turns_cost xs ts ≤ turns_cost [] ts = cost_at_most xs [] ts (λ i. h (suc i)) in
    let g : x ≡ 0 = omega arith in
    let k : x * t ≡ 0 = rw g (omega arith) in omega arith
cost_at_most (x ∷ xs) (y ∷ ys) (t ∷ ts) h =
    let e : x ≤ y = h 0 in
    let f : turns_cost xs ts ≤ turns_cost ys ts = cost_at_most xs ys ts (λ i. h (suc i)) in
    omega (arith, mul-le-mul_right t e)

pub worth_at_most : (f g : Form) (ts : List ℕ) → AtMost f g → worth f ts ≤ worth g ts
worth_at_most f g ts h = let e = cost_at_most f.each g.each ts h.each in omega (arith, h.base, e)

-- ONE OF TWO

pub left_of : (f g : Form) → AtMost f (greater f g)
left_of f g = record { base = omega arith; each = λ i. omega (arith, greatest_at f.each g.each i) }

pub right_of : (f g : Form) → AtMost g (greater f g)
right_of f g = record { base = omega arith; each = λ i. omega (arith, greatest_at f.each g.each i) }

pub both_of : (f g h : Form) → AtMost f h → AtMost g h → AtMost (greater f g) h
both_of f g h p q = record {
  base = omega (arith, p.base, q.base);
  each = λ i. (let a = p.each i in let b = q.each i in
      omega (arith, a, b, greatest_at f.each g.each i));
}

-- a form that there may not be
abbrev pub Below : Option Form → Option Form → Type 0
Below None g = Unit {0}
Below (Some f) None = ⊥
Below (Some f) (Some g) = AtMost f g

pub below_same : (o : Option Form) → Below o o
below_same None = tt
below_same (Some f) = at_most_same f

pub below_twice : (o p q : Option Form) → Below o p → Below p q → Below o q
below_twice None p q a b = tt
below_twice (Some f) None q a b = absurd a
below_twice (Some f) (Some g) None a b = absurd b
below_twice (Some f) (Some g) (Some h) a b = at_most_twice f g h a b

pub below_left : (o p : Option Form) → Below o (either_form o p)
below_left None p = tt
below_left (Some f) None = at_most_same f
below_left (Some f) (Some g) = left_of f g

pub below_right : (o p : Option Form) → Below p (either_form o p)
below_right None p = below_same p
below_right (Some f) None = tt
below_right (Some f) (Some g) = right_of f g

-- THE FORM BEFORE A PART, by its spans

abbrev pub form_at : Spans → (after out : Form) → Form
form_at w after out = record {
  base = max (base_of w.on after.base) (max (base_of w.leave out.base) (base_of w.stop 0));
  each = greatest (each_of w.on after.each) (each_of w.leave out.each);
}

-- some way there is
abbrev pub Has : Spans → Type 0
Has w = (is_some w.on || is_some w.leave || is_some w.stop) ≡ true

base_most : (o p : Option ℕ) (b : ℕ) → base_of (most o p) b ≡ max (base_of o b) (base_of p b)
base_most None p b = omega arith
base_most (Some m) None b = omega arith
base_most (Some m) (Some n) b = omega arith

each_most : (o p : Option ℕ) (a : List ℕ) (i : ℕ) → get_or (each_of (most o p) a) i 0 ≡ max (get_or (each_of o a) i 0) (get_or (each_of p a) i 0)
each_most None p a i = omega arith
each_most (Some m) None a i = omega arith
each_most (Some m) (Some n) a i = omega arith

each_plus : (n : ℕ) (o : Option ℕ) (a : List ℕ) → each_of (plus (Some n) o) a ≡ each_of o a
each_plus n None a = refl
each_plus n (Some m) a = refl

-- monotone in what follows
base_mono : (o : Option ℕ) (a b : ℕ) → a ≤ b → base_of o a ≤ base_of o b
base_mono None a b h = omega arith
base_mono (Some n) a b h = omega arith

each_mono : (o : Option ℕ) (a b : List ℕ) → ((i : ℕ) → get_or a i 0 ≤ get_or b i 0) → (i : ℕ) → get_or (each_of o a) i 0 ≤ get_or (each_of o b) i 0
each_mono None a b h i = omega arith
each_mono (Some n) a b h i = h i

pub form_mono : (w : Spans) (after after' out : Form) → AtMost after after' → AtMost (form_at w after out) (form_at w after' out)
form_mono w after after' out h = record {
  base = omega (arith, base_mono w.on after.base after'.base h.base);
  each = λ i. omega (
    arith,
    greatest_at (each_of w.on after.each) (each_of w.leave out.each) i,
    greatest_at (each_of w.on after'.each) (each_of w.leave out.each) i,
    each_mono w.on after.each after'.each h.each i,
  );
}

-- one of two parts
pub either_at : (u v : Spans) (after out : Form) → AtMost (greater (form_at u after out) (form_at v after out)) (form_at (either u v) after out)
either_at u v after out = record {
  base = omega (arith, base_most u.on v.on after.base, base_most u.leave v.leave out.base, base_most u.stop v.stop 0);
  each = λ i. omega (
    arith,
    greatest_at (greatest (each_of u.on after.each) (each_of u.leave out.each)) (greatest (each_of v.on after.each) (each_of v.leave out.each)) i,
    greatest_at (each_of u.on after.each) (each_of u.leave out.each) i,
    greatest_at (each_of v.on after.each) (each_of v.leave out.each) i,
    greatest_at (each_of (most u.on v.on) after.each) (each_of (most u.leave v.leave) out.each) i,
    each_most u.on v.on after.each i,
    each_most u.leave v.leave out.each i,
  );
}

-- one part, and then another
seq_base : (uf ub ue vf vb ve : Option ℕ) (a k : ℕ) → (is_some vf || is_some vb || is_some ve) ≡ true
    → max (base_of uf (max (base_of vf a) (max (base_of vb k) (base_of ve 0)))) (max (base_of ub k) (base_of ue 0))
    ≤ max (base_of (plus uf vf) a) (max (base_of (most ub (plus uf vb)) k) (base_of (most ue (plus uf ve)) 0))
seq_base None ub ue vf vb ve a k h = omega (arith, base_most ub None k, base_most ue None 0)
seq_base (Some n) ub ue None None None a k h = absurd (cc)
seq_base (Some n) ub ue (Some x) None None a k h = omega (arith, base_most ub None k, base_most ue None 0)
seq_base (Some n) ub ue None (Some y) None a k h = omega (arith, base_most ub (Some (n + y)) k, base_most ue None 0)
seq_base (Some n) ub ue None None (Some z) a k h = omega (arith, base_most ub None k, base_most ue (Some (n + z)) 0)
seq_base (Some n) ub ue (Some x) (Some y) None a k h = omega (arith, base_most ub (Some (n + y)) k, base_most ue None 0)
seq_base (Some n) ub ue (Some x) None (Some z) a k h = omega (arith, base_most ub None k, base_most ue (Some (n + z)) 0)
seq_base (Some n) ub ue None (Some y) (Some z) a k h = omega (arith, base_most ub (Some (n + y)) k, base_most ue (Some (n + z)) 0)
seq_base (Some n) ub ue (Some x) (Some y) (Some z) a k h = omega (arith, base_most ub (Some (n + y)) k, base_most ue (Some (n + z)) 0)

seq_each : (uf ub vf vb : Option ℕ) (a k : List ℕ) (i : ℕ)
    → get_or (greatest (each_of uf (greatest (each_of vf a) (each_of vb k))) (each_of ub k)) i 0
    ≤ get_or (greatest (each_of (plus uf vf) a) (each_of (most ub (plus uf vb)) k)) i 0
seq_each None None vf vb a k i = omega arith
seq_each None (Some x) vf vb a k i = omega arith
seq_each (Some n) None None None a k i = omega arith
seq_each (Some n) None None (Some y) a k i = omega (arith, greatest_at k [] i, greatest_at [] k i)
seq_each (Some n) None (Some x) None a k i = omega (arith, greatest_at (greatest a []) [] i, greatest_at a [] i)
seq_each (Some n) None (Some x) (Some y) a k i = omega (arith, greatest_at (greatest a k) [] i, greatest_at a k i)
seq_each (Some n) (Some z) None None a k i = omega arith
seq_each (Some n) (Some z) None (Some y) a k i = omega (arith, greatest_at k k i, greatest_at [] k i)
seq_each (Some n) (Some z) (Some x) None a k i = omega (arith, greatest_at (greatest a []) k i, greatest_at a [] i, greatest_at a k i)
seq_each (Some n) (Some z) (Some x) (Some y) a k i = omega (arith, greatest_at (greatest a k) k i, greatest_at a k i)

pub seq_at : (u v : Spans) (after out : Form) → Has v → AtMost (form_at u (form_at v after out) out) (form_at (seq u v) after out)
seq_at u v after out h = record {
  base = seq_base u.on u.leave u.stop v.on v.leave v.stop after.base out.base h;
  each = seq_each u.on u.leave v.on v.leave after.each out.each;
}

-- so many commands first
later_base : (n : ℕ) (f b e : Option ℕ) (a k : ℕ) → (is_some f || is_some b || is_some e) ≡ true
    → n + max (base_of f a) (max (base_of b k) (base_of e 0))
    ≤ max (base_of (plus (Some n) f) a) (max (base_of (plus (Some n) b) k) (base_of (plus (Some n) e) 0))
later_base n None None None a k h = absurd (cc)
later_base n (Some x) None None a k h = omega arith
later_base n None (Some y) None a k h = omega arith
later_base n None None (Some z) a k h = omega arith
later_base n (Some x) (Some y) None a k h = omega arith
later_base n (Some x) None (Some z) a k h = omega arith
later_base n None (Some y) (Some z) a k h = omega arith
later_base n (Some x) (Some y) (Some z) a k h = omega arith

abbrev pub paid : ℕ → Form → Form
paid n f = record f { base = n + f.base }

later_each : (n : ℕ) (w : Spans) (a k : List ℕ) → greatest (each_of (plus (Some n) w.on) a) (each_of (plus (Some n) w.leave) k)
    ≡ greatest (each_of w.on a) (each_of w.leave k)
later_each n w a k = rw (each_plus n w.on a, each_plus n w.leave k) refl

pub later_at : (n : ℕ) (w : Spans) (after out : Form) → Has w → AtMost (paid n (form_at w after out)) (form_at (later n w) after out)
later_at n w after out h = record {
  base = later_base n w.on w.leave w.stop after.base out.base h;
  each = λ i. (let f = ap (λ l. get_or l i 0) (later_each n w after.each out.each) in omega arith);
}

-- LOOPS

-- the way out of a body, in the last turn
out_base : (n : ℕ) (b e : Option ℕ) (a k m c : ℕ) → m ≤ n + c
    → max (base_of b a) (base_of e 0) - c + m ≤ max m (max (base_of (plus (Some n) b) a) (max (base_of (plus (Some n) None) k) (base_of (plus (Some n) e) 0)))
out_base n None None a k m c h = omega arith
out_base n (Some x) None a k m c h = omega arith
out_base n None (Some z) a k m c h = omega arith
out_base n (Some x) (Some z) a k m c h = omega arith

times : (n c : ℕ) → n * c ≤ (n - 1) * c + c
times zero c = omega arith
times (suc n) c = let e : suc n - 1 ≡ n = omega arith in rw e (let f : suc n * c ≡ n * c + c = grind arith in omega (arith, f))

-- before a loop, where these are the forms by the spans of its body and its else block
pub loop_at : (n : ℕ) (u v : Spans) (other after out : Form) → Has v → AtMost other (form_at v after out)
    → AtMost (before_loop n u (last_turn u other after)) (form_at (all_turns n u v) after out)
loop_at n u v other after out has h =
    let c = or_zero u.on in
    let all = later (n * c) v in
    let last = later ((n - 1) * c) (way_out u) in
    let both = either_at all last after out in
    let p = later_at (n * c) v after out has in
    let q = out_base ((n - 1) * c) u.leave u.stop after.base out.base (n * c) c (times n c) in
    let m : c * n ≡ n * c = grind arith in
    record {
      base = omega (arith, both.base, p.base, q, m, h.base);
      each = λ i.
          (let x = both.each i in
          let y = p.each i in
          let z = h.each i in
          let w = ap (λ l. get_or l i 0) (each_plus ((n - 1) * c) u.leave after.each) in
          omega (
            arith,
            x,
            y,
            z,
            w,
            greatest_at other.each (each_of u.leave after.each) i,
            greatest_at (form_at all after out).each (form_at last after out).each i,
            greatest_at (each_of (plus (Some ((n - 1) * c)) u.leave) after.each) [] i,
          ));
    }

-- a turn is begun
turn_base : (f b e : Option ℕ) (h a : ℕ) → max (base_of b a) (base_of e 0) ≤ h + or_zero f → max (base_of f h) (max (base_of b a) (base_of e 0)) ≤ h + or_zero f
turn_base None b e h a p = omega arith
turn_base (Some n) b e h a p = omega arith

turn_each : (f b : Option ℕ) (gr a : List ℕ) (i : ℕ) → ((i : ℕ) → get_or (each_of b a) i 0 ≤ get_or gr i 0)
    → get_or (greatest (each_of f (or_zero f ∷ gr)) (each_of b (0 ∷ a))) i 0 ≤ get_or (or_zero f ∷ gr) i 0
turn_each None None gr a i h = omega arith
turn_each None (Some m) gr a zero h = omega arith
turn_each None (Some m) gr a (suc i) h = h i
turn_each (Some n) None gr a zero h = omega arith
turn_each (Some n) None gr a (suc i) h = omega arith
turn_each (Some n) (Some m) gr a zero h = omega arith
turn_each (Some n) (Some m) gr a (suc i) h = let e = h i in omega (arith, greatest_at gr a i)

pub turn_pays : (u : Spans) (other after : Form) (t : ℕ) (ts : List ℕ)
    → worth (form_at u (head_form u (last_turn u other after)) (inside after)) (t ∷ ts) ≤ worth (head_form u (last_turn u other after)) (suc t ∷ ts)
turn_pays u other after t ts =
    let h = head_form u (last_turn u other after) in
    let more : Form = record { base = h.base + or_zero u.on; each = h.each } in
    let e : worth (form_at u h (inside after)) (t ∷ ts) ≤ worth more (t ∷ ts) =
    worth_at_most (form_at u h (inside after)) more (t ∷ ts) (record {
      base = turn_base u.on u.leave u.stop h.base after.base (omega arith);
      each = λ i. turn_each u.on u.leave (last_turn u other after).each after.each i
          (λ j. omega (arith, greatest_at other.each (each_of u.leave after.each) j));
    }) in
    let f : or_zero u.on * suc t ≡ or_zero u.on * t + or_zero u.on = grind arith in
    omega (arith, e, f)

-- the else block
pub other_pays : (u : Spans) (other after : Form) (ts : List ℕ) → worth other ts ≤ worth (head_form u (last_turn u other after)) (0 ∷ ts)
other_pays u other after ts =
    let d : turns_cost other.each ts ≤ turns_cost (last_turn u other after).each ts =
    cost_at_most other.each (last_turn u other after).each ts (λ i. omega (arith, greatest_at other.each (each_of u.leave after.each) i)) in
    let z : or_zero u.on * 0 ≡ 0 = omega arith in
    omega (arith, d, z)
