-- The count of a block phase that a simulated card knows is the one that the host announced.
use Rattle.std.proofs.Common.{◌≡◌, ℕ, ◌≤◌, ◌<◌, ◌==◌, ◌||◌, refl, sym, ◌∙◌, Bool, true, false, Option, Some, None, if◌then◌else◌, eqb-true, arith}
use Rattle.sdv_card.specs.declared.state.State.{State}
use Rattle.sdv_card.specs.declared.state.Transfer.{Transfer}
use Rattle.sdv_card.specs.declared.state.Transfer.TheVariants.{ReadDue, OpenReadDue, WriteDue, OpenWriteDue}
use Rattle.sdv_card.specs.declared.command.Order.{Order}
use Rattle.sdv_card.specs.declared.command.Order.TheVariants.{ReadMultipleBlock, WriteMultipleBlock}
use Rattle.sdv_card.specs.declared.command.Row.{Row}
use Rattle.sdv_card.specs.declared.command.Row.TheVariants.{Cmd0, Cmd8Emmc, Cmd12, Cmd17, Cmd18, Cmd24, Cmd25, Acmd13, Acmd51}
use Rattle.sdv_card.specs.declared.command.TakenAs.{TakenAs}
use Rattle.sdv_card.specs.declared.command.TakenAs.TheVariants.{Forbidden, Ignored, By}
use Rattle.sdv_card.specs.Card.{Card, Partitions}
use Rattle.sdv_card.specs.Legal.{SettledLegal}
use Rattle.sdv_card.specs.Port.{count_known}
use Rattle.sdv_card.specs.RowRules.{transfer_after, preset_allows}
use Rattle.sdv_card.specs.States.{own_target}
use Rattle.sdv_card.specs.Takes.{taken_as_of}
use Rattle.sdv_behavior.specs.declared.behavior.Behavior.{Behavior}
use Rattle.sdv_behavior.specs.declared.card_desc.CardDesc.{CardDesc}
use Rattle.sdv_behavior.specs.declared.card_state.CardState.{CardState}
use Rattle.sdv_behavior.specs.declared.choice.Choice.{Choice}
use Rattle.sdv_behavior.specs.declared.behavior.Deed.{Deed}
use Rattle.sdv_behavior.specs.declared.behavior.Deed.TheVariants.{Loses, TakesUnheard, Takes, StaysUnheard, Stays}
use Rattle.sdv_behavior.specs.CardOf.{card_with}
use Rattle.sdv_behavior.specs.Heard.{stepped_to, settled_by, row_deed, choice_of, does, done_as}
use Rattle.sdv_behavior.specs.RowTaken.{announced_next}
use Rattle.sdv_behavior.proofs.TakenLaw.{announced_with}
use Rattle.sdv_behavior.proofs.DoesLaw.{announced_by}
use Rattle.sdv_behavior.proofs.HearLaw.{announced_as}
use Rattle.sdv_behavior.proofs.AcceptLaws.{CountFits}

-- where a card knows the count, it is this one
abbrev pub Knows : CardState → ℕ → Type 0
Knows s announced = count_known s.transfer ≡ true → s.announced ≡ announced

pub no : {A : Type 0} → false ≡ true → A
no e = absurd (cc)

counted : (preset n announced : ℕ) (due wide : Transfer) (none : Bool) → (preset == 0) ≡ none → (none || (preset == n)) ≡ true → count_known wide ≡ false →
    count_known (if none then wide else due) ≡ true → (if none then 1 else preset) ≡ n
counted preset n announced due wide true e allowed unknown k = no (sym unknown ∙ k)
counted preset n announced due wide false e allowed unknown k = eqb-true preset n allowed

row_count : (row : Row) (t : CardState) (announced : ℕ) → preset_allows row t.preset ≡ true → Knows t announced →
    count_known (transfer_after row t.preset t.transfer) ≡ true → announced_next row t.preset t.announced ≡ announced_with row announced
row_count Cmd17 t announced allowed knows k = refl
row_count (Cmd18 n) t announced allowed knows k = counted t.preset n announced ReadDue OpenReadDue (t.preset == 0) refl allowed refl k
row_count Cmd24 t announced allowed knows k = refl
row_count (Cmd25 n) t announced allowed knows k = counted t.preset n announced WriteDue OpenWriteDue (t.preset == 0) refl allowed refl k
row_count Cmd0 t announced allowed knows k = no k
row_count Cmd8Emmc t announced allowed knows k = no k
row_count Cmd12 t announced allowed knows k = no k
row_count Acmd13 t announced allowed knows k = no k
row_count Acmd51 t announced allowed knows k = no k
row_count row t announced allowed knows k = knows k

does_count : (d : CardDesc) (deed : Deed) (row : Row) (argument : ℕ) (choice : Choice) (t : CardState) (announced : ℕ) → preset_allows row t.preset ≡ true →
    Knows t announced →
    Knows (does d deed row argument choice t).after (announced_by deed row announced)
does_count d Loses row argument choice t announced allowed knows k = knows k
does_count d TakesUnheard row argument choice t announced allowed knows k = row_count row t announced allowed knows k
does_count d Takes row argument choice t announced allowed knows k = row_count row t announced allowed knows k
does_count d StaysUnheard row argument choice t announced allowed knows k = knows k
does_count d Stays row argument choice t announced allowed knows k = knows k

pub done_count : (d : CardDesc) (behavior : Behavior) (way : TakenAs) (argument : ℕ) (t : CardState) (announced : ℕ) (contents : Partitions) →
    SettledLegal way (card_with d t announced contents) → Knows t announced →
    Knows (done_as d behavior way argument t).after (announced_as behavior way announced)
done_count d behavior Forbidden argument t announced contents legal knows = knows
done_count d behavior Ignored argument t announced contents legal knows = knows
done_count d behavior (By row) argument t announced contents legal knows =
    does_count d (row_deed behavior.deed row) row argument (choice_of d behavior row t) t announced legal.preset knows

stepped_count : (o : Option State) (s : CardState) (announced : ℕ) → Knows s announced → Knows (stepped_to o s) announced
stepped_count None s announced knows = knows
stepped_count (Some state) s announced knows = λ k. no k

pub settled_count : (settles : Bool) (s : CardState) (announced : ℕ) → Knows s announced → Knows (settled_by settles s) announced
settled_count false s announced knows = knows
settled_count true s announced knows = stepped_count (own_target s.state s.transfer) s announced knows

-- THE COUNT THAT IS READ is at most the one that the host announced
few : (preset n : ℕ) (none : Bool) → (preset == 0) ≡ none → (none || (preset == n)) ≡ true → 0 < n → (if none then 1 else preset) ≤ n
few preset n true e allowed some = omega (arith, some)
few preset n false e allowed some = let same : preset ≡ n = eqb-true preset n allowed in omega (arith, same)

-- a count that an order announces isn't 0
abbrev pub SomeCount : Order → Type 0
SomeCount (ReadMultipleBlock n) = 0 < n
SomeCount (WriteMultipleBlock n) = 0 < n
SomeCount order = Unit {0}

pub count_fits : (order : Order) (app matched : Bool) (t : Card) → SomeCount order → SettledLegal (taken_as_of order app matched) t → CountFits t.preset order
count_fits (ReadMultipleBlock n) true matched t some l = absurd l
count_fits (ReadMultipleBlock n) false matched t some l = few t.preset n (t.preset == 0) refl l.preset some
count_fits (WriteMultipleBlock n) true matched t some l = absurd l
count_fits (WriteMultipleBlock n) false matched t some l = few t.preset n (t.preset == 0) refl l.preset some
count_fits order app matched t some l = tt
