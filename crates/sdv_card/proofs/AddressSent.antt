-- A card takes a command of a host by whether the host's relative card address is its own.
use Rattle.std.proofs.Common.{◌≡◌, ℕ, ◌*◌, ◌/◌, refl, ap, ◌∙◌, arith, Bool, true, false, Option, Some}
use Rattle.sdv_registers.specs.declared.kind.Kind.{Kind}
use Rattle.sdv_card.specs.declared.event.Ask.{Ask}
use Rattle.sdv_card.specs.declared.command.Order.{Order}
use Rattle.sdv_card.specs.declared.command.Order.TheVariants.{GoIdleState, SelectCard, SendCsd, SendCid, SendStatus, AppCommand}
use Rattle.sdv_card.specs.Takes.{taken_as_of, matches}
use Rattle.sdv_card.specs.CommandTable.{order_of, order_argument, argument_or_none}
use Rattle.sdv_card.specs.Host.{Host}
use Rattle.sdv_card.specs.HostEvents.{ArgumentFits}

high_half : (n : ℕ) → 65536 * n / 65536 ≡ n
high_half n = omega arith

-- an argument of an order that looks at the address has the host's address in bits 31..16
order_way : (order : Order) (app : Bool) (rca : Option ℕ) (own host address : ℕ) →
    taken_as_of order app (matches rca (order_argument order own host address / 65536)) ≡ taken_as_of order app (matches rca host)
order_way AppCommand app rca own host address = ap (λ n. taken_as_of AppCommand app (matches rca n)) (high_half host)
order_way SelectCard app rca own host address = ap (λ n. taken_as_of SelectCard app (matches rca n)) (high_half host)
order_way SendCsd app rca own host address = ap (λ n. taken_as_of SendCsd app (matches rca n)) (high_half host)
order_way SendCid app rca own host address = ap (λ n. taken_as_of SendCid app (matches rca n)) (high_half host)
order_way SendStatus app rca own host address = ap (λ n. taken_as_of SendStatus app (matches rca n)) (high_half host)
order_way GoIdleState app rca own host address = refl
order_way order true rca own host address = refl
order_way order false rca own host address = refl

pub record AddressSent (order : Order) (argument : ℕ) (h : Host) : Type 0 where
  pub way : (app : Bool) (rca : Option ℕ) → taken_as_of order app (matches rca (argument / 65536)) ≡ taken_as_of order app (matches rca h.rca)

pub address_sent : (k : Kind) (ask : Ask) (argument : ℕ) (h : Host) (order : Order) → ArgumentFits k ask argument h → order_of k ask ≡ Some order →
    AddressSent order argument h
address_sent k ask argument h order made e =
    let same : argument ≡ order_argument order ask.argument h.rca made.address =
    made.same ∙ ap (λ o. argument_or_none o ask.argument h.rca made.address) e in
    record {
      way = λ app rca. ap (λ n. taken_as_of order app (matches rca (n / 65536))) same ∙ order_way order app rca ask.argument h.rca made.address;
    }
