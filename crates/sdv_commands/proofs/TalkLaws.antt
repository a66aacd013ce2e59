-- A run over a port of lines asks for each of its events and hears the answer, until the port gives up. It sends no more
-- commands than the port's limit.
use Rattle.std.proofs.Common.{◌≡◌, ◌∙◌, ◌⊎◌, ◌+◌, ◌≤◌, ap, arith, refl, subst, sym, inl, inr, ℕ, List, [], ◌∷◌, ◌++◌, Option, Some, None}
use Rattle.std.specs.Prelude.{MatchOption}
use Rattle.sdv_registers.specs.declared.kind.Kind.{Kind}
use Rattle.sdv_card.specs.Port.{Call, call_of}
use Rattle.sdv_card.specs.ScriptEvent.{ScriptEvent, SendCommand, ReceiveBlocks, ReceiveRegister, GiveBlocks, AwaitReady}
use Rattle.sdv_facts.specs.Beside.{commands, commands_in}
use Rattle.sdv_graph.specs.Walk.{Pair}
use Rattle.sdv_run.specs.Run.{RunMoved}
use Rattle.sdv_text.proofs.WrittenLaws.{appends_none, appends_more}
use Rattle.sdv_lines.proofs.LineLaws.{consumes_none, consumes_more}
use Rattle.sdv_lines.proofs.PortLaws.{spends_none}
use Rattle.sdv_lines.specs.declared.fault.ProtocolFault.{ProtocolFault}
use Rattle.sdv_lines.specs.declared.fault.PortFault.{PortFault}
use Rattle.sdv_lines.specs.declared.fault.PortFault.TheVariants.{Lines, Commands}
use Rattle.sdv_lines.specs.Texts.{lines_of}
use Rattle.sdv_lines.specs.Requests.{request_of}
use Rattle.sdv_lines.specs.Streams.{Streams, Asked, GaveUp, IsSilent, LineSteps, Spends, Unanswered, commands_of}
use Rattle.sdv_commands.specs.Talk.{BrokeOff, Talked, Talks, TalksAt, answer_lines, asked, asked_at, requests}

-- COMMANDS that are left

spends_more : (a b : ℕ) (x y z : Option ℕ) → Spends a x y → Spends b y z → Spends (a + b) x z
spends_more a b None y z p q = subst (λ o. Spends b o z) p q
spends_more a b (Some n) y z p q =
    let rest : Spends b (Some p.0) z = subst (λ o. Spends b o z) p.1 q in
    let all : n ≡ a + b + rest.0 = omega (arith, p.2, rest.2) in
    (rest.0, rest.1, all)

pub spends_few : (count most : ℕ) (left left' : Option ℕ) → left ≡ Some most → Spends count left left' → count ≤ most
spends_few count most left left' is p =
    let some : Spends count (Some most) left' = subst (λ o. Spends count o left') is p in
    let all : most ≡ count + some.0 = some.2 in
    omega (arith, all)

-- a call has the commands of its event
pub call_counts : (k : Kind) (event : ScriptEvent) → commands_of (call_of k event) ≡ commands_in event
call_counts k (SendCommand ask position argument) = refl
call_counts k (ReceiveBlocks lines count) = refl
call_counts k (ReceiveRegister lines count) = refl
call_counts k (GiveBlocks lines blocks) = refl
call_counts k AwaitReady = refl

pub commands_append : (front back : List Pair) → commands (front ++ back) ≡ commands front + commands back
commands_append [] back =
    let none : commands back ≡ 0 + commands back = omega arith in
    none
commands_append (p ∷ front) back =
    let more = commands_append front back in
    omega (arith, more)

-- THE RUN

-- why a port gave up it keeps
why_kept : (why : PortFault) (call : Call) (s s' : Streams) → Unanswered why call s s' → s'.fault ≡ Some why
why_kept (Lines why) call s s' u = u.2
why_kept Commands call s s' u = ap (λ t. t.fault) u.2

-- a port that gave up stays as it is
still : (k : Kind) (es : List Pair) (s s' : Streams) (why : PortFault) → s.fault ≡ Some why → RunMoved k LineSteps s es s' → s' ≡ s
still k [] s s' why f moved = moved
still k (p ∷ es) s s' why f (u, step, more) =
    let call = call_of k p.0 in
    let quiet = subst (λ o. MatchOption o (Asked call p.1 s u ⊎ GaveUp call p.1 s u) (λ _. (u ≡ s) × IsSilent call p.1)) f step in
    still k es u s' why (ap (λ t. t.fault) quiet.0 ∙ f) more ∙ quiet.0

-- what was said of events, by what is kept of why the port gave up
pub said : (k : Kind) (es : List Pair) (s s' : Streams) (o : Option PortFault) → s'.fault ≡ o → Talks k es s s'
    → TalksAt o k es s s'
said k es s s' o e t = subst (λ o. TalksAt o k es s s') e t

unsaid : (k : Kind) (es : List Pair) (s s' : Streams) (o : Option PortFault) → s'.fault ≡ o
    → TalksAt o k es s s' → Talks k es s s'
unsaid k es s s' o e t = subst (λ o. TalksAt o k es s s') (sym e) t

nothing : (k : Kind) (s : Streams) → s.fault ≡ None → Talked k [] s s
nothing k s f = record {
  dues = [];
  announced = tt;
  written = appends_none s.requests;
  answers = [];
  are_answers = tt;
  read = consumes_none s.answers;
  spent = spends_none s.left;
  well = f;
}

module _ (k : Kind) (p : Pair) (es : List Pair) (s u s' : Streams) (asked : Asked (call_of k p.0) p.1 s u) where
  more_talked : Talked k es u s' → Talked k (p ∷ es) s s'
  more_talked t = record {
    dues = asked.due ∷ t.dues;
    announced = (asked.announced, t.announced);
    written = appends_more s.requests u.requests s'.requests (request_of asked.due (call_of k p.0)) (requests k es t.dues) asked.written t.written;
    answers = asked.heard.texts ∷ t.answers;
    are_answers = (asked.heard.answers, t.are_answers);
    read = consumes_more s.answers u.answers s'.answers (lines_of asked.heard.texts) (answer_lines t.answers) asked.heard.read t.read;
    spent = spends_more (commands_in p.0) (commands es) s.left u.left s'.left
        (subst (λ n. Spends n s.left u.left) (call_counts k p.0) asked.spent) t.spent;
    well = t.well;
  }

module _ (k : Kind) (p : Pair) (es : List Pair) (s u s' : Streams) (asked : Asked (call_of k p.0) p.1 s u) where
  more_broke : (why : PortFault) → BrokeOff k es why u s' → BrokeOff k (p ∷ es) why s s'
  more_broke why b = record {
    earlier = p ∷ b.earlier;
    unanswered = b.unanswered;
    later = b.later;
    all = ap (λ l. p ∷ l) b.all;
    before = b.before;
    talked = more_talked k p b.earlier s u b.before asked b.talked;
    broke = b.broke;
  }

  more : (o : Option PortFault) → s'.fault ≡ o → Talks k es u s' → Talks k (p ∷ es) s s'
  more None e t = unsaid k (p ∷ es) s s' None e (more_talked k p es s u s' asked (said k es u s' None e t))
  more (Some why) e t = unsaid k (p ∷ es) s s' (Some why) e (more_broke why (said k es u s' (Some why) e t))

gave_up : (k : Kind) (p : Pair) (es : List Pair) (s u : Streams) → s.fault ≡ None → GaveUp (call_of k p.0) p.1 s u → Talks k (p ∷ es) s u
gave_up k p es s u f gave =
    let broke : BrokeOff k (p ∷ es) gave.why s u = record {
      earlier = [];
      unanswered = p;
      later = es;
      all = refl;
      before = s;
      talked = nothing k s f;
      broke = gave.unanswered;
    } in
    unsaid k (p ∷ es) s u (Some gave.why) (why_kept gave.why (call_of k p.0) s u gave.unanswered) broke

one_more : (k : Kind) (p : Pair) (es : List Pair) (s u s' : Streams) → s.fault ≡ None →
    Asked (call_of k p.0) p.1 s u ⊎ GaveUp (call_of k p.0) p.1 s u → RunMoved k LineSteps u es s' → (u.fault ≡ None → Talks k es u s')
    → Talks k (p ∷ es) s s'
one_more k p es s u s' f (inl asked) rest talk = more k p es s u s' asked s'.fault refl (talk asked.well)
one_more k p es s u s' f (inr gave) rest talk =
    subst (λ t. Talks k (p ∷ es) s t) (sym (still k es u s' gave.why (why_kept gave.why (call_of k p.0) s u gave.unanswered) rest)) (gave_up k p es s u f gave)

pub talks : (k : Kind) (es : List Pair) (s s' : Streams) → s.fault ≡ None → RunMoved k LineSteps s es s' → Talks k es s s'
talks k [] s s' f moved = subst (λ t. Talks k [] s t) (sym moved) (unsaid k [] s s None f (nothing k s f))
talks k (p ∷ es) s s' f (u, step, rest) =
    let call = call_of k p.0 in
    let made = subst (λ o. MatchOption o (Asked call p.1 s u ⊎ GaveUp call p.1 s u) (λ _. (u ≡ s) × IsSilent call p.1)) f step in
    one_more k p es s u s' f made rest (λ well. talks k es u s' well rest)

-- THE COMMANDS whose requests were written

module _ (k : Kind) (most : ℕ) (es : List Pair) (s s' : Streams) (limit : s.left ≡ Some most) where
  pub talked_few : (front : List Pair) (t : Streams) → Talked k front s t → commands front ≤ most
  talked_few front t talked = spends_few (commands front) most s.left t.left limit talked.spent

  -- the last one counts too
  broke_few : (why : ProtocolFault) (b : BrokeOff k es (Lines why) s s') → commands (b.earlier ++ b.unanswered ∷ []) ≤ most
  broke_few why b =
      let last : Spends (commands_in b.unanswered.0) b.before.left s'.left =
      subst (λ n. Spends n b.before.left s'.left) (call_counts k b.unanswered.0) b.broke.1 in
      let all = spends_few (commands b.earlier + commands_in b.unanswered.0) most s.left s'.left limit
      (spends_more (commands b.earlier) (commands_in b.unanswered.0) s.left b.before.left s'.left b.talked.spent last) in
      let both = commands_append b.earlier (b.unanswered ∷ []) in
      omega (arith, all, both)

  pub few_at : (fault : Option PortFault) (t : TalksAt fault k es s s') → commands (asked_at fault k es s s' t) ≤ most
  few_at None t = talked_few es s' t
  few_at (Some (Lines why)) t = broke_few why t
  few_at (Some Commands) t = talked_few t.earlier t.before t.talked

  pub few_asked : (t : Talks k es s s') → commands (asked k es s s' t) ≤ most
  few_asked t = few_at s'.fault t
