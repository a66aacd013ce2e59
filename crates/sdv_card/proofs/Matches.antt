-- Whether a card has the host's relative address, after what a host learns of it.
use Rattle.std.proofs.Common.{◌≡◌, ℕ, refl, sym, ◌∙◌, true, false, Option, Some, None, rules}
use Rattle.sdv_card.specs.declared.state.State.{State}
use Rattle.sdv_card.specs.declared.state.State.TheVariants.{Ident}
use Rattle.sdv_card.specs.declared.answer.Answer.{Answer}
use Rattle.sdv_card.specs.declared.answer.Answer.TheVariants.{TimeOut}
use Rattle.sdv_card.specs.declared.command.Row.{Row}
use Rattle.sdv_card.specs.declared.command.Row.TheVariants.{Cmd0, Cmd3Sd, Cmd3Emmc}
use Rattle.sdv_card.specs.declared.command.Response.TheVariants.{Absent, NotAddressed, CardStatus, NewAddress}
use Rattle.sdv_card.specs.Lists.{May}
use Rattle.sdv_card.specs.RowRules.{matched_after, matched_stayed}
use Rattle.sdv_card.specs.Responses.{response_of}
use Rattle.sdv_card.specs.Takes.{matches}
use Rattle.sdv_card.specs.Card.{AddressFits}
use Rattle.sdv_card.specs.Taken.{RcaAfter}
use Rattle.sdv_card.proofs.RowsOfOrders.{row_rca}
use Rattle.sdv_card.proofs.Members.{here, May-either}
use Rattle.sdv_card.proofs.TakenFields.{same_match}

-- a card that is given an address had none
abbrev pub GivenAddress : Row → Option ℕ → Type 0
GivenAddress Cmd3Emmc rca = None ≡ rca
GivenAddress row rca = Unit {0}

none_matches : (rca : Option ℕ) (n : ℕ) → None ≡ rca → true ≡ matches rca n
none_matches rca n e = rw (sym e) refl

some_matches : (rca : Option ℕ) (n : ℕ) → Some n ≡ rca → true ≡ matches rca n
some_matches rca n e = rw (sym e) (search rules)

-- after a row that was taken, if its response was lost
pub taken_unheard : (row : Row) (answer : Answer) (a b : Option ℕ) (n : ℕ) → RcaAfter row a b →
    May (matched_after row false (matches a n)) (matches b (row_rca row answer n))
taken_unheard Cmd0 answer a b n r = here (none_matches b 0 r)
taken_unheard Cmd3Sd answer a b n r = May-either (matches b (row_rca Cmd3Sd answer n))
taken_unheard Cmd3Emmc answer a b n r = here (some_matches b 1 r)
taken_unheard row answer a b n r = here (same_match a b n n r refl)

-- or if it was heard, and shows no new address
pub taken_heard : (row : Row) (answer : Answer) (a b : Option ℕ) (n : ℕ) → (NewAddress ≡ response_of row → ⊥) → RcaAfter row a b →
    May (matched_after row true (matches a n)) (matches b (row_rca row answer n))
taken_heard Cmd0 answer a b n other r = here (none_matches b 0 r)
taken_heard Cmd3Sd answer a b n other r = absurd (other refl)
taken_heard Cmd3Emmc answer a b n other r = here (some_matches b 1 r)
taken_heard row answer a b n other r = here (same_match a b n n r refl)

-- after a row that was not taken
pub same_unheard : (row : Row) (a : Option ℕ) (n : ℕ) → (Absent ≡ response_of row → ⊥) → GivenAddress row a →
    matches a n ≡ matches a (row_rca row TimeOut n)
same_unheard Cmd0 a n other given = absurd (other refl)
same_unheard Cmd3Emmc a n other given = sym (none_matches a n given) ∙ none_matches a 1 given
same_unheard row a n other given = refl

pub same_status : (row : Row) (answer : Answer) (a : Option ℕ) (n : ℕ) → CardStatus ≡ response_of row → GivenAddress row a →
    matches a n ≡ matches a (row_rca row answer n)
same_status Cmd0 answer a n is given = absurd (cc)
same_status Cmd3Sd answer a n is given = absurd (cc)
same_status Cmd3Emmc answer a n is given = sym (none_matches a n given) ∙ none_matches a 1 given
same_status row answer a n is given = refl

pub same_unaddressed : (row : Row) (answer : Answer) (a : Option ℕ) (n : ℕ) → NotAddressed ≡ response_of row →
    matches a n ≡ matches a (row_rca row answer n)
same_unaddressed Cmd0 answer a n is = absurd (cc)
same_unaddressed Cmd3Sd answer a n is = absurd (cc)
same_unaddressed Cmd3Emmc answer a n is = absurd (cc)
same_unaddressed row answer a n is = refl

-- a host that heard the address that the card chose has it
pub published_matches : (rca : Option ℕ) (n : ℕ) → Some n ≡ rca → true ≡ matches rca n
published_matches rca n e = some_matches rca n e

-- a card that stayed matches each number in identification state, where it has no address
pub stayed_matches : (s : State) (rca : Option ℕ) (n : ℕ) → AddressFits s rca → May (matched_stayed s) (matches rca n)
stayed_matches Ident rca n e = here (none_matches rca n e)
stayed_matches s rca n e = May-either (matches rca n)
