-- A call that was asked, by what became of its request and of its answer.
use Rattle.std.proofs.Common.{◌≡◌, ℕ, List, Option, Result, Ok, Err, refl, sym, subst}
use Rattle.std.specs.Io.KnownBytes.{Appends}
use Rattle.sdv_card.specs.Port.{Call}
use Rattle.sdv_card.specs.ScriptEvent.{Return}
use Rattle.sdv_lines.specs.declared.fault.ProtocolFault.{ProtocolFault}
use Rattle.sdv_lines.specs.declared.fault.ProtocolFault.TheVariants as faults
use Rattle.sdv_lines.specs.declared.due.Due.{Due}
use Rattle.sdv_lines.specs.Requests.{request_of}
use Rattle.sdv_lines.specs.Streams.{AppendsFront, Unheard, Hears, Failed, Asks}

pub unsent : (due : Option Due) (call : Call) (a r r' : Option (List ℕ)) (fault : ProtocolFault) → (fault ≡ faults.Write) × AppendsFront r r' (request_of due call)
    → Failed fault due call a a r r'
unsent due call a r r' fault (is, front) = subst (λ f. Failed f due call a a r r') (sym is) (front, refl)

unheard : (due : Option Due) (call : Call) (a a' r r' : Option (List ℕ)) (fault : ProtocolFault) → Appends r r' (request_of due call) → Unheard fault call a a'
    → Failed fault due call a a' r r'
unheard due call a a' r r' faults.Write p u = absurd u
unheard due call a a' r r' faults.Read p u = (p, u)
unheard due call a a' r r' faults.Closed p u = (p, u)
unheard due call a a' r r' faults.Line p u = (p, u)

pub then_heard : {A : Type 0} (due : Option Due) (call : Call) (returns : A → Return) (a a' r r' : Option (List ℕ)) (result : Result A ProtocolFault)
    → Appends r r' (request_of due call) → Hears call returns a a' result → Asks due call returns a a' r r' result
then_heard due call returns a a' r r' (Ok x) p h = (p, h)
then_heard due call returns a a' r r' (Err fault) p h = unheard due call a a' r r' fault p h
