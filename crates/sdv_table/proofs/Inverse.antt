-- What was put into words is read back.
use Rattle.std.proofs.Common.{◌≡◌, ℕ, List, [], ◌∷◌, ◌++◌, ◌+◌, ◌*◌, ◌/◌, ◌%◌, ◌<◌, ◌≤◌, ◌==◌, length, drop, Option, Some, None, suc, zero, false, refl, ap, sym, ◌∙◌, arith, lit<}
use Rattle.std.proofs.lemmas.Bool.{ne_eqb}
use Rattle.std.proofs.lemmas.Bool.Decides.{nat_tests}
use Rattle.sdv_frames.specs.declared.reply.Expect.{Expect}
use Rattle.sdv_frames.specs.declared.reply.Expect.TheVariants as expects
use Rattle.sdv_registers.specs.declared.kind.Kind.{Kind}
use Rattle.sdv_card.specs.declared.event.Aim.{Aim}
use Rattle.sdv_card.specs.declared.event.Aim.TheVariants.{Rca, Plain}
use Rattle.sdv_card.specs.declared.event.Ask.{Ask}
use Rattle.sdv_card.specs.declared.command.Order.{Order}
use Rattle.sdv_card.specs.declared.command.Order.TheVariants.{SetBusWidth, Switch, Erase, SdSendOpCond, GoIdleState}
use Rattle.sdv_card.specs.declared.guard.Guard.{Guard}
use Rattle.sdv_card.specs.declared.guard.Guard.TheVariants.{State as InState}
use Rattle.sdv_card.specs.declared.state.State.{State}
use Rattle.sdv_card.specs.declared.state.State.TheVariants as states
use Rattle.sdv_card.specs.declared.state.Width.{Width}
use Rattle.sdv_card.specs.declared.state.Width.TheVariants.{One, Four, Eight}
use Rattle.sdv_card.specs.CommandTable.{order_of, order_argument, argument_or_none, argument_of, order_expect, expect_or_nothing}
use Rattle.sdv_card.proofs.RowsOfOrders.{order_index}
use Rattle.sdv_card.proofs.OrdersOfAsks.{LineOf, WritesArgument, line_of}
use Rattle.sdv_graph.specs.declared.tree.ScriptCommand.{ScriptCommand}
use Rattle.sdv_graph.specs.declared.tree.Let.{Let}
use Rattle.sdv_graph.specs.declared.tree.Phase.{Phase}
use Rattle.sdv_graph.specs.declared.tree.Phase.TheVariants as phases
use Rattle.sdv_graph.specs.declared.tree.Address.{Address}
use Rattle.sdv_graph.specs.declared.tree.Unit.{Unit as AddressUnit}
use Rattle.sdv_graph.specs.declared.tree.Unit.TheVariants.{Block, Byte, By}
use Rattle.sdv_graph.specs.declared.tree.Position.{Position}
use Rattle.sdv_graph.specs.declared.tree.Position.TheVariants as positions
use Rattle.sdv_graph.specs.declared.tree.Change.{Change}
use Rattle.sdv_graph.specs.declared.tree.Change.TheVariants as changes
use Rattle.sdv_graph.specs.declared.graph.Target.{Target}
use Rattle.sdv_graph.specs.declared.tree.Atom.{Atom}
use Rattle.sdv_graph.specs.declared.tree.Atom.TheVariants as atoms
use Rattle.sdv_graph.specs.declared.tree.Condition.{Condition}
use Rattle.sdv_graph.specs.declared.tree.Condition.TheVariants as conditions
use Rattle.sdv_graph.specs.Path.{Case}
use Rattle.sdv_table.specs.declared.sending.Data.{Data}
use Rattle.sdv_table.specs.declared.sending.Data.TheVariants as uses
use Rattle.sdv_table.specs.declared.sending.Source.{Source}
use Rattle.sdv_table.specs.declared.sending.Source.TheVariants as sources
use Rattle.sdv_table.specs.declared.sending.Sending.{Sending}
use Rattle.sdv_table.specs.Sending.{sending_of}
use Rattle.sdv_table.specs.Row.{turns_number, target_word, atom_code, atom_words, change_code, change_words, condition_code, condition_words, phase_code, width_code, aim_code, unit_code, position_code, position_number, address_words, has_address, low, high, guard_code, guards_word, cases_words, name_words, expect_code, data_code, source_code, counts_word}
use Rattle.sdv_table.specs.Reading.{enter_of, target_of, number_at, atom_of, code_size, change_of, condition_of, phase_of, width_of, aim_of, unit_of, position_of, address_of, own_argument, command_of, cases_place, let_of, guard_of, guards_of, cases_of, expect_read, data_read, source_read, sending_read, name_of}
use Rattle.sdv_table.specs.Fits.{EnterFits, TargetFits, CasesFit, AtomFits, UnitFits, AddressFits, CommandFits, LetFits, AreBytes, HasOrder, greatest}
use Rattle.sdv_table.proofs.Small.{guard_small}

-- TARGETS AND NUMBERS

target_with : ℕ → ℕ → Option ℕ → Target
target_with a b e = record { to = a; leave = b; enter = e }

some_back : (n : ℕ) → 0 < n → enter_of n ≡ Some n
some_back n h = grind (arith, nat_tests)

pub enter_back : (e : Option ℕ) → EnterFits e → enter_of (turns_number e) ≡ e
enter_back None fits = refl
enter_back (Some n) fits = some_back n fits.0

pub target_back : (t : Target) → TargetFits 8191 t → target_of (target_word t) ≡ t
unfolding target_with
target_back t fits =
    let n = turns_number t.enter in
    let w = t.to + 8192 * t.leave + 65536 * n in
    let a : w % 8192 ≡ t.to = omega arith in
    let b : w / 8192 % 8 ≡ t.leave = omega arith in
    let c : w / 65536 ≡ n = omega arith in
    ap (λ x. target_with x (w / 8192 % 8) (enter_of (w / 65536))) a
    ∙ ap (λ x. target_with t.to x (enter_of (w / 65536))) b
    ∙ ap (λ x. target_with t.to t.leave (enter_of x)) c
    ∙ ap (λ x. target_with t.to t.leave x) (enter_back t.enter fits.2)

pub number_back : (n : ℕ) → low n + 4294967296 * high n ≡ n
number_back n = omega arith

pub atom_back : (a : Atom) (n : ℕ) → AtomFits 8 a → ((m : ℕ) → a ≡ atoms.Number m → n ≡ m) → atom_of (atom_code a) n ≡ a
atom_back (atoms.Number m) n fits same = ap atoms.Number (same m refl)
atom_back (atoms.Variable y) n fits same =
    let a : (1 + 8 * y) % 8 ≡ 1 = omega arith in
    let b : (1 + 8 * y) / 8 ≡ y = omega arith in
    rw (a, b) refl
atom_back atoms.CsdBlocks n fits same = refl
atom_back atoms.ExtBlocks n fits same = refl
atom_back atoms.ExtBoot n fits same = refl

pub change_back : (a : Change) (n : ℕ) → ((m : ℕ) → (change_words a ≡ low m ∷ high m ∷ []) → n ≡ m) → change_of (change_code a) n ≡ a
change_back changes.Same n same = refl
change_back (changes.Plus m) n same = ap changes.Plus (same m refl)
change_back (changes.Minus m) n same = ap changes.Minus (same m refl)

pub condition_back : (a : Condition) (n : ℕ) → ((m : ℕ) → (condition_words a ≡ low m ∷ high m ∷ []) → n ≡ m)
    → condition_of (condition_code a) n ≡ a
condition_back (conditions.Flag f) n same =
    let a : (0 + 4 * f) % 4 ≡ 0 = omega arith in
    let b : (0 + 4 * f) / 4 ≡ f = omega arith in
    rw (a, b) refl
condition_back (conditions.AtLeast x m) n same =
    let a : (1 + 4 * x) % 4 ≡ 1 = omega arith in
    let b : (1 + 4 * x) / 4 ≡ x = omega arith in
    rw (a, b) (ap (conditions.AtLeast x) (same m refl))
condition_back (conditions.Below x m) n same =
    let a : (2 + 4 * x) % 4 ≡ 2 = omega arith in
    let b : (2 + 4 * x) / 4 ≡ x = omega arith in
    rw (a, b) (ap (conditions.Below x) (same m refl))

pub phase_back : (p : Phase) → phase_of (phase_code p) ≡ p
phase_back phases.ReceiveBlocks = refl
phase_back phases.ReceiveRegister = refl
phase_back phases.GiveBlocks = refl
phase_back phases.Wait = refl

pub width_back : (w : Width) → width_of (width_code w) ≡ w
width_back One = refl
width_back Four = refl
width_back Eight = refl

pub aim_back : (a : Aim) → aim_of (aim_code a) ≡ a
aim_back Rca = refl
aim_back Plain = refl

pub unit_back : (u : AddressUnit) → unit_of (unit_code u) ≡ u
unit_back Block = refl
unit_back Byte = refl
unit_back (By f) =
    let a : (2 + 4 * f) % 4 ≡ 2 = omega arith in
    let b : (2 + 4 * f) / 4 ≡ f = omega arith in
    rw (a, b) refl

pub position_back : (p : Position) → position_of (position_code p) (position_number p) ≡ p
position_back (positions.Number n) = refl
position_back (positions.Variable x None) =
    let a : (1 + 4 * x) % 4 ≡ 1 = omega arith in
    let b : (1 + 4 * x) / 4 ≡ x = omega arith in
    rw (a, b) refl
position_back (positions.Variable x (Some k)) =
    let a : (2 + 4 * x) % 4 ≡ 2 = omega arith in
    let b : (2 + 4 * x) / 4 ≡ x = omega arith in
    rw (a, b) refl

unit_small : (u : AddressUnit) → UnitFits 4 u → unit_code u < 16
unit_small Block fits = omega arith
unit_small Byte fits = omega arith
unit_small (By f) fits = omega arith

address_with : AddressUnit → Position → Option Address
address_with u p = Some record { unit = u; position = p }

pub address_back : (a : Option Address) (x y z : ℕ) (cs rest : List ℕ) → AddressFits greatest a
    → address_of (has_address a) (x ∷ y ∷ z ∷ ((address_words a ++ cs) ++ rest)) ≡ a
unfolding address_with
address_back None x y z cs rest fits = refl
address_back (Some a) x y z cs rest fits =
    let w = unit_code a.unit + 16 * position_code a.position in
    let n = position_number a.position in
    let less = unit_small a.unit fits.0 in
    let e : w % 16 ≡ unit_code a.unit = omega arith in
    let f : w / 16 ≡ position_code a.position = omega arith in
    ap (λ u. address_with (unit_of u) (position_of (w / 16) (low n + 4294967296 * high n))) e
    ∙ ap (λ q. address_with (unit_of (unit_code a.unit)) (position_of q (low n + 4294967296 * high n))) f
    ∙ ap (λ m. address_with (unit_of (unit_code a.unit)) (position_of (position_code a.position) m)) (number_back n)
    ∙ ap (λ u. address_with u (position_of (position_code a.position) n)) (unit_back a.unit)
    ∙ ap (λ q. address_with a.unit q) (position_back a.position)

aim_small : (a : Aim) → aim_code a < 2
aim_small Rca = omega arith
aim_small Plain = omega arith

-- HOW A COMMAND IS SENT

own_by_order : (order : Order) (argument : ℕ) → WritesArgument order argument
    → own_argument (order_index order) (order_argument order argument 0 0) ≡ argument
own_by_order Erase argument is = refl
own_by_order (SetBusWidth width) argument is = refl
own_by_order (Switch setting) argument is = refl
own_by_order (SdSendOpCond high) argument is = refl
own_by_order order argument is = sym is

own_back : (k : Kind) (ask : Ask) → HasOrder k ask → own_argument ask.index (argument_of k ask 0 0) ≡ ask.argument
own_back k ask has =
    let order = has.0 in
    let line : LineOf k ask order = line_of k ask order has.1.line in
    ap (λ o. own_argument ask.index (argument_or_none o ask.argument 0 0)) has.1.line
    ∙ ap (λ i. own_argument i (order_argument order ask.argument 0 0)) line.index ∙ own_by_order order ask.argument line.argument

order_expect_back : (order : Order) (i : ℕ) → expect_read (expect_code (order_expect order i)) i ≡ order_expect order i
order_expect_back GoIdleState i = refl
order_expect_back order i = refl

expect_back : (order : Option Order) (i : ℕ) → expect_read (expect_code (expect_or_nothing order i)) i ≡ expect_or_nothing order i
expect_back None i = refl
expect_back (Some order) i = order_expect_back order i

data_back : (d : Data) → data_read (data_code d) ≡ d
data_back uses.Nothing = refl
data_back uses.Busy = refl
data_back uses.BlocksIn = refl
data_back uses.BlocksOut = refl
data_back uses.Scr = refl
data_back uses.SdStatus = refl
data_back uses.ExtCsd = refl

expect_small : (e : Expect) → expect_code e < 8
expect_small expects.Nothing = lit< tt
expect_small (expects.R1 i) = lit< tt
expect_small expects.R2 = lit< tt
expect_small expects.R3 = lit< tt
expect_small expects.R6 = lit< tt
expect_small expects.R7 = lit< tt

source_back : (s : Source) → source_read (source_code s) ≡ s
source_back sources.Own = refl
source_back sources.Rca = refl
source_back sources.Address = refl

source_small : (s : Source) → source_code s < 4
source_small sources.Own = lit< tt
source_small sources.Rca = lit< tt
source_small sources.Address = lit< tt

data_small : (d : Data) → data_code d < 8
data_small uses.Nothing = lit< tt
data_small uses.Busy = lit< tt
data_small uses.BlocksIn = lit< tt
data_small uses.BlocksOut = lit< tt
data_small uses.Scr = lit< tt
data_small uses.SdStatus = lit< tt
data_small uses.ExtCsd = lit< tt

-- the parts of the word of counts
pub record Counted (word count expect follows source cases : ℕ) : Type 0 where
  pub count_back : word % 65536 ≡ count
  pub expect_back : word / 65536 % 8 ≡ expect
  pub follows_back : word / 524288 % 8 ≡ follows
  pub source_back : word / 4194304 % 4 ≡ source
  pub cases_back : word / 16777216 ≡ cases

counted : (word count e d s n : ℕ) → word ≡ count + 65536 * ((e + 8 * (d + 8 * s)) + 256 * n) → count < 65536 → e < 8 → d < 8 → s < 4
    → Counted word count e d s n
counted word count e d s n is few small_e small_d small_s = record {
  count_back = omega arith;
  expect_back = omega arith;
  follows_back = omega arith;
  source_back = omega arith;
  cases_back = omega arith;
}

pub counts_back : (s : Sending) (count n : ℕ) → count < 65536
    → Counted (counts_word count s n) count (expect_code s.expect) (data_code s.follows) (source_code s.source) n
counts_back s count n few =
    counted (counts_word count s n) count (expect_code s.expect) (data_code s.follows) (source_code s.source) n refl few (expect_small s.expect)
    (data_small s.follows) (source_small s.source)

sending_with : Source → ℕ → Expect → Data → Sending
sending_with f a e d = record { source = f; argument = a; expect = e; follows = d }

pub sending_back : (k : Kind) (ask : Ask) (small other n : ℕ) (ws more : List ℕ) → ask.count < 65536 → small % 64 ≡ ask.index
    → ws ≡ other ∷ (sending_of k ask).argument ∷ counts_word ask.count (sending_of k ask) n ∷ more
    → sending_read small ws ≡ sending_of k ask
unfolding sending_with
sending_back k ask small other n ws more few index is =
    let s = sending_of k ask in
    let w = counts_word ask.count s n in
    let parts = counts_back s ask.count n few in
    ap (λ ws. sending_read small ws) is
    ∙ ap (λ i. sending_with (source_read (w / 4194304 % 4)) s.argument (expect_read (w / 65536 % 8) i) (data_read (w / 524288 % 8))) index
    ∙ ap (λ f. sending_with (source_read f) s.argument (expect_read (w / 65536 % 8) ask.index) (data_read (w / 524288 % 8))) parts.source_back
    ∙ ap (λ f. sending_with f s.argument (expect_read (w / 65536 % 8) ask.index) (data_read (w / 524288 % 8))) (source_back s.source)
    ∙ ap (λ e. sending_with s.source s.argument (expect_read e ask.index) (data_read (w / 524288 % 8))) parts.expect_back
    ∙ ap (λ d. sending_with s.source s.argument (expect_read (expect_code s.expect) ask.index) (data_read d)) parts.follows_back
    ∙ ap (λ e. sending_with s.source s.argument e (data_read (data_code s.follows))) (expect_back (order_of k ask) ask.index)
    ∙ ap (λ d. sending_with s.source s.argument s.expect d) (data_back s.follows)

command_with : ℕ → Aim → ℕ → ℕ → Option Address → ScriptCommand
command_with i a arg n address = record { ask = record { index = i; aim = a; argument = arg; count = n }; address = address }

pub command_back : (k : Kind) (c : ScriptCommand) (o n : ℕ) (cs rest : List ℕ) → CommandFits greatest c → HasOrder k c.ask
    → command_of (c.ask.index + 64 * (aim_code c.ask.aim + 2 * has_address c.address))
    (o ∷ (sending_of k c.ask).argument ∷ counts_word c.ask.count (sending_of k c.ask) n ∷ ((address_words c.address ++ cs) ++ rest)) ≡ c
unfolding command_with
command_back k c o n cs rest fits has =
    let small = c.ask.index + 64 * (aim_code c.ask.aim + 2 * has_address c.address) in
    let s = sending_of k c.ask in
    let m = counts_word c.ask.count s n in
    let row : List ℕ = o ∷ s.argument ∷ m ∷ ((address_words c.address ++ cs) ++ rest) in
    let less = aim_small c.ask.aim in
    let below = fits.index in
    let i : small % 64 ≡ c.ask.index = omega arith in
    let a : small / 64 % 2 ≡ aim_code c.ask.aim = omega arith in
    let h : small / 128 ≡ has_address c.address = omega arith in
    let parts = counts_back s c.ask.count n fits.count in
    ap (λ x. command_with x (aim_of (small / 64 % 2)) (own_argument x s.argument) (m % 65536) (address_of (small / 128) row)) i
    ∙ ap (λ x. command_with c.ask.index (aim_of x) (own_argument c.ask.index s.argument) (m % 65536) (address_of (small / 128) row)) a
    ∙ ap (λ x. command_with c.ask.index x (own_argument c.ask.index s.argument) (m % 65536) (address_of (small / 128) row)) (aim_back c.ask.aim)
    ∙ ap (λ x. command_with c.ask.index c.ask.aim x (m % 65536) (address_of (small / 128) row)) (own_back k c.ask has)
    ∙ ap (λ x. command_with c.ask.index c.ask.aim c.ask.argument x (address_of (small / 128) row)) parts.count_back
    ∙ ap (λ x. command_with c.ask.index c.ask.aim c.ask.argument c.ask.count (address_of x row)) h
    ∙ ap (λ x. command_with c.ask.index c.ask.aim c.ask.argument c.ask.count x)
    (address_back c.address o s.argument m cs rest fits.address)

pub dropped : (a : Option Address) (x y z : ℕ) (cs rest : List ℕ)
    → drop (cases_place (has_address a)) (x ∷ y ∷ z ∷ ((address_words a ++ cs) ++ rest)) ≡ cs ++ rest
dropped None x y z cs rest = refl
dropped (Some a) x y z cs rest = refl

-- GUARDS AND CASES

state_back : (s : State) → guard_of (guard_code (InState s)) ≡ InState s
state_back states.Idle = refl
state_back states.Ready = refl
state_back states.Ident = refl
state_back states.Stby = refl
state_back states.Tran = refl
state_back states.Data = refl
state_back states.Rcv = refl
state_back states.Prg = refl
state_back states.Dis = refl

guard_back : (g : Guard) → guard_of (guard_code g) ≡ g
guard_back (InState s) = state_back s
guard_back guard = refl

not_zero : (w : ℕ) → 0 < w → (w == 0) ≡ false
not_zero w some = ne_eqb w 0 (λ e. absurd (omega arith))

guards_step : (n w c r : ℕ) → 0 < w → w % 32 ≡ c → w / 32 ≡ r → guards_of (suc n) w ≡ guard_of c ∷ guards_of n r
guards_step n w c r some l h = rw (not_zero w some, l, h) refl

pub guards_back : (n : ℕ) (gs : List Guard) → length gs ≤ n → guards_of n (guards_word gs) ≡ gs
guards_back zero [] few = refl
guards_back (suc n) [] few = refl
guards_back zero (g ∷ gs) few = absurd (omega arith)
guards_back (suc n) (g ∷ gs) few =
    let w = guard_code g + 32 * guards_word gs in
    let small = guard_small g in
    let some : 0 < w = omega arith in
    let l : w % 32 ≡ guard_code g = omega arith in
    let h : w / 32 ≡ guards_word gs = omega arith in
    guards_step n w (guard_code g) (guards_word gs) some l h
    ∙ ap (λ x. x ∷ guards_of n (guards_word gs)) (guard_back g) ∙ ap (λ r. g ∷ r) (guards_back n gs (omega arith))

case_with : List Guard → Target → Case
case_with gs t = record { guards = gs; target = t }

pub cases_back : (ws : List Case) (rest : List ℕ) → CasesFit 8191 ws → cases_of (length ws) (cases_words ws ++ rest) ≡ ws
unfolding case_with
cases_back [] rest fits = refl
cases_back (w ∷ ws) rest fits =
    let more = cases_of (length ws) (cases_words ws ++ rest) in
    ap (λ g. case_with g (target_of (target_word w.target)) ∷ more) (guards_back 6 w.guards fits.0)
    ∙ ap (λ t. case_with w.guards t ∷ more) (target_back w.target fits.1) ∙ ap (λ r. w ∷ r) (cases_back ws rest fits.2)

-- NAMES

cons_same : {x y : ℕ} {xs ys : List ℕ} → x ≡ y → xs ≡ ys → (x ∷ xs) ≡ (y ∷ ys)
cons_same {x} {y} {xs} {ys} e f = ap (λ x. x ∷ xs) e ∙ ap (λ xs. y ∷ xs) f

pub name_back : (bs rest : List ℕ) → AreBytes bs → name_of (length bs) (name_words bs ++ rest) ≡ bs
name_back [] rest small = refl
name_back (a ∷ []) rest small = let x = small.0 in cons_same (omega arith) refl
name_back (a ∷ b ∷ []) rest small =
    let x = small.0 in let y = small.1.0 in cons_same (omega arith) (cons_same (omega arith) refl)
name_back (a ∷ b ∷ c ∷ []) rest small =
    let x = small.0 in let y = small.1.0 in let z = small.1.1.0 in
    cons_same (omega arith) (cons_same (omega arith) (cons_same (omega arith) refl))
name_back (a ∷ b ∷ c ∷ d ∷ bs) rest small =
    let x = small.0 in let y = small.1.0 in let z = small.1.1.0 in let u = small.1.1.1.0 in
    cons_same (omega arith) (cons_same (omega arith) (cons_same (omega arith) (cons_same (omega arith)
    (name_back bs rest small.1.1.1.1))))

-- LETS

atom_small : (a : Atom) → AtomFits 8 a → atom_code a < 64
atom_small (atoms.Number m) fits = omega arith
atom_small (atoms.Variable y) fits = omega arith
atom_small atoms.CsdBlocks fits = omega arith
atom_small atoms.ExtBlocks fits = omega arith
atom_small atoms.ExtBoot fits = omega arith

atom_number : (a : Atom) (t : ℕ) (more rest : List ℕ) (m : ℕ) → a ≡ atoms.Number m
    → number_at (t ∷ ((atom_words a ++ more) ++ rest)) 1 ≡ m
atom_number a t more rest m e = rw e (number_back m)

change_number : (a : Atom) (ch : List ℕ) (t : ℕ) (rest : List ℕ) (m : ℕ) → ch ≡ low m ∷ high m ∷ []
    → number_at (t ∷ ((atom_words a ++ ch) ++ rest)) (1 + code_size (atom_code a)) ≡ m
change_number (atoms.Number x) ch t rest m e = rw e (number_back m)
change_number (atoms.Variable y) ch t rest m e =
    let z : (1 + 8 * y) % 8 ≡ 1 = omega arith in
    rw (z, e) (number_back m)
change_number atoms.CsdBlocks ch t rest m e = rw e (number_back m)
change_number atoms.ExtBlocks ch t rest m e = rw e (number_back m)
change_number atoms.ExtBoot ch t rest m e = rw e (number_back m)

let_with : ℕ → Atom → Change → Let
let_with t a ch = record { target = t; atom = a; change = ch }

pub let_back : (l : Let) (t : ℕ) (rest : List ℕ) → LetFits greatest l
    → let_of (l.target + 16 * (atom_code l.atom + 64 * change_code l.change))
    (t ∷ ((atom_words l.atom ++ change_words l.change) ++ rest)) ≡ l
unfolding let_with
let_back l t rest fits =
    let small = l.target + 16 * (atom_code l.atom + 64 * change_code l.change) in
    let row : List ℕ = t ∷ ((atom_words l.atom ++ change_words l.change) ++ rest) in
    let less = atom_small l.atom fits.atom in
    let in_range = fits.target in
    let i : small % 16 ≡ l.target = omega arith in
    let a : small / 16 % 64 ≡ atom_code l.atom = omega arith in
    let c : small / 1024 ≡ change_code l.change = omega arith in
    ap (λ x. let_with x (atom_of (small / 16 % 64) (number_at row 1)) (change_of (small / 1024) (number_at row (1 + code_size (small / 16 % 64))))) i
    ∙ ap (λ x. let_with l.target (atom_of x (number_at row 1)) (change_of (small / 1024) (number_at row (1 + code_size x)))) a
    ∙ ap (λ x. let_with l.target (atom_of (atom_code l.atom) (number_at row 1)) (change_of x (number_at row (1 + code_size (atom_code l.atom))))) c
    ∙ ap (λ x. let_with l.target x (change_of (change_code l.change) (number_at row (1 + code_size (atom_code l.atom)))))
    (atom_back l.atom (number_at row 1) fits.atom (λ m e. atom_number l.atom t (change_words l.change) rest m e))
    ∙ ap (λ x. let_with l.target l.atom x)
    (change_back l.change (number_at row (1 + code_size (atom_code l.atom)))
    (λ m e. change_number l.atom (change_words l.change) t rest m e))
