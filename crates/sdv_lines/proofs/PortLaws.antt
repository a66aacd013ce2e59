-- A call that a port of lines made: what became of it is a step of the port.
use Rattle.std.proofs.Common.{◌≡◌, ◌∙◌, ◌⊎◌, ap, arith, refl, subst, sym, inr, Bool, true, false, ℕ, ◌+◌, Option, Some, None, Result, Ok, Err}
use Rattle.std.specs.Prelude.{MatchOption}
use Rattle.sdv_card.specs.Port.{Call}
use Rattle.sdv_card.specs.ScriptEvent.{Return}
use Rattle.sdv_lines.specs.declared.fault.ProtocolFault.{ProtocolFault}
use Rattle.sdv_lines.specs.declared.fault.PortFault.TheVariants.{Lines, Commands}
use Rattle.sdv_lines.specs.declared.due.Due.{Due}
use Rattle.sdv_lines.specs.Due.{Announces}
use Rattle.sdv_lines.specs.Streams.{Asked, Asks, Failed, GaveUp, IsSilent, LineSteps, Spends, Streams, TakesCommand, command_in, commands_of, limited}

-- no command
pub spends_none : (left : Option ℕ) → Spends 0 left left
spends_none None = refl
spends_none (Some n) =
    let all : n ≡ 0 + n = omega arith in
    (n, refl, all)

failed_by : {A : Type 0} (due : Option Due) (call : Call) (returns : A → Return) (s s' : Streams) (result : Result A ProtocolFault) (why : ProtocolFault) → result ≡ Err why
    → Asks due call returns s.answers s'.answers s.requests s'.requests result → Failed why due call s.answers s'.answers s.requests s'.requests
failed_by due call returns s s' (Ok x) why is asks = absurd (cc is)
failed_by due call returns s s' (Err fault) why is asks =
    let same : fault ≡ why = cc in
    subst (λ f. Failed f due call s.answers s'.answers s.requests s'.requests) same asks

-- its streams failed
pub gave_up : {A : Type 0} (due : Option Due) (call : Call) (returns : A → Return) (returned : Return) (s s' : Streams) (result : Result A ProtocolFault) (why : ProtocolFault)
    → Announces call due → s.fault ≡ None → Asks due call returns s.answers s'.answers s.requests s'.requests result → result ≡ Err why → Spends (commands_of call) s.left s'.left
    → s'.fault ≡ Some (Lines why) → s'.unheard ≡ command_in call → IsSilent call returned → LineSteps s call returned s'
gave_up due call returns returned s s' result why announced well asks is spent kept unheard silent =
    let gave : GaveUp call returned s s' = record {
      why = Lines why;
      unanswered = ((due, announced, failed_by due call returns s s' result why is asks), spent, kept, unheard);
      silent = silent;
    } in
    subst (λ o. MatchOption o (Asked call returned s s' ⊎ GaveUp call returned s s') (λ _. (s' ≡ s) × IsSilent call returned)) (sym well) (inr gave)

-- the same of a command, which was taken first
pub command_gave_up : {A : Type 0} (due : Option Due) (call : Call) (returns : A → Return) (returned : Return) (s t s' : Streams) (result : Result A ProtocolFault)
    (why : ProtocolFault) (taken : Bool) → Announces call due → s.fault ≡ None → taken ≡ true → TakesCommand taken s t → commands_of call ≡ 1
    → Asks due call returns t.answers s'.answers t.requests s'.requests result → result ≡ Err why → s'.left ≡ t.left → s'.fault ≡ Some (Lines why)
    → s'.unheard ≡ command_in call → IsSilent call returned → LineSteps s call returned s'
command_gave_up due call returns returned s t s' result why taken announced well is_taken takes one asks is left kept unheard silent =
    let took : Spends 1 s.left t.left × (t ≡ limited t.left s) = subst (λ b. TakesCommand b s t) is_taken takes in
    let asked : Asks due call returns s.answers s'.answers s.requests s'.requests result =
    subst (λ u. Asks due call returns u.answers s'.answers u.requests s'.requests result) took.1 asks in
    let spent : Spends (commands_of call) s.left s'.left = subst (λ n. Spends n s.left s'.left) (sym one) (subst (λ l. Spends 1 s.left l) (sym left) took.0) in
    gave_up due call returns returned s s' result why announced well asked is spent kept unheard silent

abbrev gives_up : Streams → Streams
gives_up s = record s { fault = Some Commands }

-- a command came where none was left
pub none_left : (call : Call) (returned : Return) (s t s' : Streams) (taken : Bool) → s.fault ≡ None → taken ≡ false → TakesCommand taken s t
    → commands_of call ≡ 1 → s' ≡ record t { fault = Some Commands } → IsSilent call returned → LineSteps s call returned s'
none_left call returned s t s' taken well is_taken takes one last silent =
    let none : (s.left ≡ Some 0) × (t ≡ s) = subst (λ b. TakesCommand b s t) is_taken takes in
    let gave : GaveUp call returned s s' = record {
      why = Commands;
      unanswered = (one, none.0, last ∙ ap gives_up none.1);
      silent = silent;
    } in
    subst (λ o. MatchOption o (Asked call returned s s' ⊎ GaveUp call returned s s') (λ _. (s' ≡ s) × IsSilent call returned)) (sym well) (inr gave)
