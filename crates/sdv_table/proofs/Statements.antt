-- The words of a statement are read as the statement.
use Rattle.std.proofs.Common.{◌≡◌, ℕ, ◌+◌, ◌*◌, ◌/◌, ◌%◌, ◌==◌, ◌<◌, Bool, true, false, List, [], ◌∷◌, ◌++◌, length, drop, slice_index, Option, Some, None, refl, ap, ◌∙◌, arith, lit<}
use Rattle.sdv_registers.specs.declared.kind.Kind.{Kind}
use Rattle.sdv_card.specs.declared.event.Aim.{Aim}
use Rattle.sdv_card.specs.declared.event.Aim.TheVariants.{Rca, Plain}
use Rattle.sdv_card.specs.declared.state.Width.{Width}
use Rattle.sdv_card.specs.declared.state.Width.TheVariants.{One, Four, Eight}
use Rattle.sdv_graph.specs.declared.graph.Target.{Target}
use Rattle.sdv_graph.specs.declared.tree.ScriptCommand.{ScriptCommand}
use Rattle.sdv_graph.specs.declared.tree.Phase.{Phase}
use Rattle.sdv_graph.specs.declared.tree.Phase.TheVariants as phases
use Rattle.sdv_graph.specs.declared.tree.Address.{Address}
use Rattle.sdv_graph.specs.declared.tree.Atom.{Atom}
use Rattle.sdv_graph.specs.declared.tree.Atom.TheVariants as atoms
use Rattle.sdv_graph.specs.declared.tree.Change.{Change}
use Rattle.sdv_graph.specs.declared.tree.Change.TheVariants as changes
use Rattle.sdv_graph.specs.declared.tree.Condition.{Condition}
use Rattle.sdv_graph.specs.declared.tree.Condition.TheVariants as conditions
use Rattle.sdv_graph.specs.Walk.{Finished, Failed}
use Rattle.sdv_graph.specs.Path.{Case, Action, sends, phases as phase_point, lets, tests, flags, widths, heads, jumps, stops}
use Rattle.sdv_table.specs.Sending.{sending_of}
use Rattle.sdv_table.specs.Row.{target_word, address_words, has_address, cases_words, counts_word, condition_words, condition_code, atom_code, change_code, phase_code, width_code, bool_code, aim_code, low, high, kind_of_action, small_of_action, row_of_action}
use Rattle.sdv_table.specs.Reading.{target_of, cases_of, cases_count, cases_place, number_at, action_of, sending_read}
use Rattle.sdv_table.specs.Loading.{IsSentRight}
use Rattle.sdv_table.specs.Fits.{TargetFits, CommandFits, AtomFits, ConditionFits, PartsFit, IsOfKind, HasOrder, greatest}
use Rattle.sdv_table.proofs.Inverse.{target_back, command_back, counts_back, sending_back, cases_back, dropped, let_back, condition_back, number_back, phase_back, width_back, name_back}

aim_small : (a : Aim) → aim_code a < 2
aim_small Rca = lit< tt
aim_small Plain = lit< tt

has_small : (a : Option Address) → has_address a < 2
has_small None = lit< tt
has_small (Some a) = lit< tt

send_back : (k : Kind) (c : ScriptCommand) (cases : List Case) (other : Target) (rest : List ℕ)
    → PartsFit greatest (sends c cases other) → HasOrder k c.ask
    → action_of 0 (small_of_action (sends c cases other)) (row_of_action k (sends c cases other) ++ rest) ≡ Some (sends c cases other)
send_back k c cases other rest fits has =
    let small = small_of_action (sends c cases other) in
    let s = sending_of k c.ask in
    let m = counts_word c.ask.count s (length cases) in
    let row : List ℕ = target_word other ∷ s.argument ∷ m ∷ ((address_words c.address ++ cases_words cases) ++ rest) in
    let command : CommandFits greatest c = fits.0 in
    let index = command.index in
    let aim = aim_small c.ask.aim in
    let h : small / 128 ≡ has_address c.address = omega arith in
    let parts = counts_back s c.ask.count (length cases) command.count in
    ap (λ x. Some (sends x (cases_of (cases_count row) (drop (cases_place (small / 128)) row)) (target_of (slice_index row 0))))
    (command_back k c (target_word other) (length cases) (cases_words cases) rest command has)
    ∙ ap (λ n. Some (sends c (cases_of n (drop (cases_place (small / 128)) row)) (target_of (slice_index row 0)))) parts.cases_back
    ∙ ap (λ a. Some (sends c (cases_of (length cases) (drop (cases_place a) row)) (target_of (slice_index row 0)))) h
    ∙ ap (λ ws. Some (sends c (cases_of (length cases) ws) (target_of (slice_index row 0))))
    (dropped c.address (target_word other) s.argument m (cases_words cases) rest)
    ∙ ap (λ ws. Some (sends c ws (target_of (slice_index row 0)))) (cases_back cases rest fits.2)
    ∙ ap (λ t. Some (sends c cases t)) (target_back other fits.3)

condition_number : (c : Condition) (a b : ℕ) (rest : List ℕ) (m : ℕ) → condition_words c ≡ low m ∷ high m ∷ []
    → number_at (a ∷ b ∷ (condition_words c ++ rest)) 2 ≡ m
condition_number c a b rest m e = rw e (number_back m)

if_back : (c : Condition) (holds other : Target) (k : Kind) (rest : List ℕ) → TargetFits 8191 holds → TargetFits 8191 other
    → action_of 3 (condition_code c) (row_of_action k (tests c holds other) ++ rest) ≡ Some (tests c holds other)
if_back c holds other k rest fits fits' =
    let row : List ℕ = target_word holds ∷ target_word other ∷ (condition_words c ++ rest) in
    ap (λ c. Some (tests c (target_of (target_word holds)) (target_of (target_word other))))
    (condition_back c (number_at row 2) (λ m q. condition_number c (target_word holds) (target_word other) rest m q))
    ∙ ap (λ t. Some (tests c t (target_of (target_word other)))) (target_back holds fits)
    ∙ ap (λ t. Some (tests c holds t)) (target_back other fits')

flag_half : (on : Bool) (f : ℕ) → (bool_code on + 2 * f) / 2 ≡ f
flag_half true f = omega arith
flag_half false f = omega arith

flag_low : (on : Bool) (f : ℕ) → (bool_code on + 2 * f) % 2 ≡ bool_code on
flag_low true f = omega arith
flag_low false f = omega arith

on_back : (on : Bool) → (bool_code on == 1) ≡ on
on_back true = refl
on_back false = refl

-- the words of a statement, and others after them, are read as the statement
pub action_back : (k : Kind) (a : Action) (rest : List ℕ) → PartsFit greatest a → IsOfKind k a
    → action_of (kind_of_action a) (small_of_action a) (row_of_action k a ++ rest) ≡ Some a
action_back k (sends c cases other) rest fits has = send_back k c cases other rest fits has
action_back k (phase_point p well other) rest fits has =
    ap (λ p. Some (phase_point p (target_of (target_word well)) (target_of (target_word other)))) (phase_back p)
    ∙ ap (λ t. Some (phase_point p t (target_of (target_word other)))) (target_back well fits.0)
    ∙ ap (λ t. Some (phase_point p well t)) (target_back other fits.1)
action_back k (lets l t) rest fits has =
    ap (λ l. Some (lets l (target_of (target_word t)))) (let_back l (target_word t) rest fits.0)
    ∙ ap (λ t. Some (lets l t)) (target_back t fits.1)
action_back k (tests c holds other) rest fits has = if_back c holds other k rest fits.1 fits.2
action_back k (flags f on t) rest fits has =
    let small = bool_code on + 2 * f in
    ap (λ n. Some (flags n (small % 2 == 1) (target_of (target_word t)))) (flag_half on f)
    ∙ ap (λ n. Some (flags f (n == 1) (target_of (target_word t)))) (flag_low on f)
    ∙ ap (λ b. Some (flags f b (target_of (target_word t)))) (on_back on)
    ∙ ap (λ t. Some (flags f on t)) (target_back t fits.1)
action_back k (widths width t) rest fits has =
    ap (λ w. Some (widths w (target_of (target_word t)))) (width_back width) ∙ ap (λ t. Some (widths width t)) (target_back t fits)
action_back k (heads n body other) rest fits has =
    let some = fits.0 in
    let turns : n % 65536 ≡ n = omega arith in
    ap (λ n. Some (heads n (target_of (target_word body)) (target_of (target_word other)))) turns
    ∙ ap (λ t. Some (heads n t (target_of (target_word other)))) (target_back body fits.1)
    ∙ ap (λ t. Some (heads n body t)) (target_back other fits.2)
action_back k (jumps t) rest fits has = ap (λ t. Some (jumps t)) (target_back t fits)
action_back k (stops Finished) rest fits has = refl
action_back k (stops (Failed name)) rest fits has = ap (λ n. Some (stops (Failed n))) (name_back name rest fits.1)
action_back k (stops last) rest fits has = absurd fits

-- CODES ARE SMALL

phase_small : (p : Phase) → phase_code p < 4
phase_small phases.ReceiveBlocks = lit< tt
phase_small phases.ReceiveRegister = lit< tt
phase_small phases.GiveBlocks = lit< tt
phase_small phases.Wait = lit< tt

atom_small : (a : Atom) → AtomFits 8 a → atom_code a < 64
atom_small (atoms.Number m) fits = lit< tt
atom_small (atoms.Variable y) fits = omega arith
atom_small atoms.CsdBlocks fits = lit< tt
atom_small atoms.ExtBlocks fits = lit< tt
atom_small atoms.ExtBoot fits = lit< tt

change_small : (c : Change) → change_code c < 3
change_small changes.Same = lit< tt
change_small (changes.Plus k) = lit< tt
change_small (changes.Minus k) = lit< tt

condition_small : (c : Condition) → ConditionFits greatest c → condition_code c < 64
condition_small (conditions.Flag f) fits = omega arith
condition_small (conditions.AtLeast x n) fits = let less = fits.0 in omega arith
condition_small (conditions.Below x n) fits = let less = fits.0 in omega arith

bool_small : (b : Bool) → bool_code b < 2
bool_small false = lit< tt
bool_small true = lit< tt

width_small : (w : Width) → width_code w < 3
width_small One = lit< tt
width_small Four = lit< tt
width_small Eight = lit< tt

pub small_fits : (a : Action) → PartsFit greatest a → (small_of_action a < 4096) × (kind_of_action a < 16)
small_fits (sends c cases other) fits =
    let x = aim_small c.ask.aim in let y = has_small c.address in let z : CommandFits greatest c = fits.0 in let i = z.index in
    (omega arith, lit< tt)
small_fits (phase_point p well other) fits = let x = phase_small p in (omega arith, lit< tt)
small_fits (lets l t) fits =
    let x = atom_small l.atom fits.0.atom in let y = change_small l.change in let z = fits.0.target in (omega arith, lit< tt)
small_fits (tests c holds other) fits = let x = condition_small c fits.0 in (omega arith, lit< tt)
small_fits (flags f on t) fits = let x = bool_small on in let y = fits.0 in (omega arith, lit< tt)
small_fits (widths w t) fits = let x = width_small w in (omega arith, lit< tt)
small_fits (heads n body other) fits = (lit< tt, lit< tt)
small_fits (jumps t) fits = (lit< tt, lit< tt)
small_fits (stops Finished) fits = (lit< tt, lit< tt)
small_fits (stops (Failed name)) fits = let x = fits.0 in (omega arith, lit< tt)
small_fits (stops last) fits = absurd fits

-- and how its command is sent is read
pub sent_back : (k : Kind) (a : Action) (small : ℕ) (ws after : List ℕ) → small ≡ small_of_action a → ws ≡ row_of_action k a ++ after
    → PartsFit greatest a → IsSentRight k a (sending_read small ws)
sent_back k (sends c cases other) small ws after is row fits =
    let command : CommandFits greatest c = fits.0 in
    let less = command.index in
    let index : small % 64 ≡ c.ask.index = omega arith in
    sending_back k c.ask small (target_word other) (length cases) ws ((address_words c.address ++ cases_words cases) ++ after)
    command.count index row
sent_back k action small ws after is row fits = tt
