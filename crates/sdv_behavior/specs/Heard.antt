-- What a simulated card makes of a command, by its behavior.
-- The behaviors are this project's own; each is one that the tables of a card allow (`proofs/SimKeeps.antt`).
use Rattle.std.specs.Prelude.{Bool, true, false, not, ◌==◌, ◌&&◌, ◌||◌, ℕ, ◌/◌, Option, Some, None, if◌then◌else◌}
use Rattle.sdv_card.specs.declared.state.State.{State}
use Rattle.sdv_card.specs.declared.state.Transfer.TheVariants.{Nothing}
use Rattle.sdv_card.specs.declared.command.Order.{Order}
use Rattle.sdv_card.specs.declared.command.Row.{Row}
use Rattle.sdv_card.specs.declared.command.Row.TheVariants.{Cmd0, Cmd6, Cmd8Sd, Cmd38, Cmd55, Acmd41}
use Rattle.sdv_card.specs.declared.command.Setting.TheVariants.{Access}
use Rattle.sdv_card.specs.declared.command.Response.{Response}
use Rattle.sdv_card.specs.declared.command.Response.TheVariants.{Absent, NotAddressed, CardStatus, NewAddress}
use Rattle.sdv_card.specs.declared.command.TakenAs.{TakenAs}
use Rattle.sdv_card.specs.declared.command.TakenAs.TheVariants.{Forbidden, Ignored, By}
use Rattle.sdv_card.specs.Modes.{has_partition, may_stay_pending}
use Rattle.sdv_card.specs.States.{own_target}
use Rattle.sdv_card.specs.Responses.{response_of}
use Rattle.sdv_card.specs.Takes.{taken_as_of, matches}
use Rattle.sdv_behavior.specs.declared.behavior.Behavior.{Behavior}
use Rattle.sdv_behavior.specs.declared.behavior.Deed.{Deed}
use Rattle.sdv_behavior.specs.declared.behavior.Deed.TheVariants.{Loses, TakesUnheard, Takes, StaysUnheard, Stays}
use Rattle.sdv_behavior.specs.declared.card_desc.CardDesc.{CardDesc}
use Rattle.sdv_behavior.specs.declared.card_state.CardState.{CardState}
use Rattle.sdv_behavior.specs.declared.choice.Choice.{Choice}
use Rattle.sdv_behavior.specs.declared.heard.Heard.{Heard}
use Rattle.sdv_behavior.specs.Layout.{boot_capacity}
use Rattle.sdv_behavior.specs.RowTaken.{taken_by, stays}
use Rattle.sdv_behavior.specs.Replies.{reply_of}
use Rattle.sdv_behavior.specs.Words.{doubt_of}

-- OWN STEP: done before the command comes, where the card settles
abbrev pub stepped_to : Option State → CardState → CardState
stepped_to None s = s
stepped_to (Some state) s = record s { state = state; transfer = Nothing }

abbrev pub settled_by : (settles : Bool) → CardState → CardState
settled_by false s = s
settled_by true s = stepped_to (own_target s.state s.transfer) s

-- an error is reported in an R1 or an R6
abbrev pub reports : Response → Bool
reports CardStatus = true
reports NewAddress = true
reports response = false

-- WHAT IT DOES with a row, by how the row is answered: it can stay only at a row that a status or an address answers
abbrev pub deed_at : Deed → Response → Deed
deed_at Stays response = if reports response then Stays else Takes
deed_at StaysUnheard response = if reports response then StaysUnheard else TakesUnheard
deed_at deed response = deed

-- CMD0 always arrives
abbrev pub row_deed : Deed → Row → Deed
row_deed deed Cmd0 = Takes
row_deed deed row = deed_at deed (response_of row)

-- ACMD41 and CMD1 make a card ready, unless it is slow. An SD card with block addresses is ready only for a host that
-- can work with them, and after a CMD8.
abbrev pub is_ready : (ready : Bool) → Row → (block_unit checked : Bool) → Bool
is_ready ready (Acmd41 high) block_unit checked = ready && (not block_unit || (high && checked))
is_ready ready row block_unit checked = ready

-- CMD6 fails where the card chooses so, and where it would give access to a boot partition that has no blocks
abbrev pub switch_fails : (fails : Bool) → Row → (boot_capacity : ℕ) → Bool
switch_fails fails (Cmd6 (Access partition)) boot_capacity = fails || not (has_partition partition boot_capacity)
switch_fails fails row boot_capacity = fails

-- CMD55 sets the application flag, which its answer shows, unless the card takes it as an ordinary command
abbrev pub sets_app : (expects : Bool) → Row → Bool
sets_app expects Cmd55 = expects
sets_app expects row = true

-- the host hears the answer, if there is one
abbrev pub is_heard : Deed → Bool
is_heard Takes = true
is_heard Stays = true
is_heard deed = false

-- the relative address that CMD3 shows: the described one, or another
abbrev pub address_of : (described : ℕ) → (other : Bool) → ℕ
address_of described other = if other then (if described == 1 then 2 else 1) else described

-- the block length after CMD0: the described one, or another; a card with block addresses has 512
abbrev pub length_of : (block_unit : Bool) → (described : ℕ) → (other : Bool) → ℕ
length_of block_unit described other =
    if block_unit || not other then described else (if described == 512 then 1024 else 512)

-- how a card takes a row, or stays at it
abbrev pub choice_of : CardDesc → Behavior → Row → CardState → Choice
choice_of d behavior row t =
    record {
      ready = is_ready behavior.ready row d.block_unit t.checked;
      switch_fails = switch_fails behavior.fails_switch row (boot_capacity d);
      app = sets_app behavior.expects_app row;
      error = behavior.error;
      keeps_erase = behavior.keeps_erase;
      keeps_preset = behavior.keeps_preset;
      keeps_switch_error = behavior.keeps_switch_error && may_stay_pending (is_heard behavior.deed) t.state t.mode;
      address = address_of d.rca behavior.other_address;
      length = length_of d.block_unit d.block_length behavior.other_length;
    }

-- CMD38 writes zeros
abbrev pub is_erase : Row → Bool
is_erase Cmd38 = true
is_erase row = false

abbrev pub unheard : CardState → Heard
unheard s = record { after = s; reply = None; erases = false }

-- ERROR OF AN EARLIER WRITE: an R1 shows it, and CMD0 or an answer that is lost ends it
abbrev pub error_after : Response → (heard error : Bool) → Bool
error_after Absent heard error = false
error_after CardStatus heard error = false
error_after NotAddressed heard error = error
error_after response heard error = heard && error

-- an SD card of version 1 does not answer CMD8
abbrev pub is_answered : CardDesc → Row → Bool
is_answered d Cmd8Sd = d.version == 2
is_answered d row = true

-- a card after its answer, which the host heard or not
abbrev pub answered : CardDesc → Row → (heard : Bool) → CardState → CardState
answered d row heard u =
    record u { unshown_error = error_after (response_of row) (heard && is_answered d row) u.unshown_error }

-- what comes of a row at a settled state
abbrev pub does : CardDesc → Deed → Row → (argument : ℕ) → Choice → CardState → Heard
does d Loses row argument choice t = unheard t
does d TakesUnheard row argument choice t =
    record {
      after = answered d row false (taken_by d row argument choice t);
      reply = None;
      erases = is_erase row;
    }
does d Takes row argument choice t =
    record {
      after = answered d row true (taken_by d row argument choice t);
      reply = reply_of d row t choice.app choice.error choice;
      erases = is_erase row;
    }
does d StaysUnheard row argument choice t =
    record { after = answered d row false (stays d.kind row choice t); reply = None; erases = false }
does d Stays row argument choice t =
    record {
      after = answered d row true (stays d.kind row choice t);
      reply = reply_of d row t false (doubt_of choice.error) choice;
      erases = false;
    }

-- what comes of an order at a settled state: of one with another relative address nothing does
abbrev pub done_as : CardDesc → Behavior → TakenAs → (argument : ℕ) → CardState → Heard
done_as d behavior Forbidden argument t = unheard t
done_as d behavior Ignored argument t = unheard t
done_as d behavior (By row) argument t =
    does d (row_deed behavior.deed row) row argument (choice_of d behavior row t) t

-- what comes of a legal order
abbrev pub hear_at : CardDesc → Behavior → Order → (argument : ℕ) → CardState → Heard
hear_at d behavior order argument t =
    done_as d behavior (taken_as_of order t.app (matches t.rca (argument / 65536))) argument t

abbrev pub hear : CardDesc → Behavior → Order → (argument : ℕ) → CardState → Heard
hear d behavior order argument s = hear_at d behavior order argument (settled_by behavior.settles s)
