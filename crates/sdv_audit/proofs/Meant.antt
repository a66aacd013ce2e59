-- Of all asks that send the bits of a line, what came of it tells the one that is meant.
use Rattle.std.proofs.Common.{◌≡◌, ℕ, List, ◌≤◌, ◌==◌, ◌&&◌, ◌*◌, nat_le, refl, ap, subst, sym, ◌∙◌, Bool, true, false, Option, Some, None, eqb-true, eq-eqb, arith}
use Rattle.std.proofs.lemmas.Bool.{leb-true}
use Rattle.sdv_frames.specs.declared.command.Command.{Command}
use Rattle.sdv_frames.specs.declared.reply.Expect.{Expect}
use Rattle.sdv_frames.specs.declared.reply.Expect.TheVariants.{Nothing}
use Rattle.sdv_registers.specs.declared.kind.Kind.{Kind}
use Rattle.sdv_registers.specs.declared.kind.Kind.TheVariants.{Sd, Emmc}
use Rattle.sdv_card.specs.declared.state.Width.TheVariants.{One, Four, Eight}
use Rattle.sdv_card.specs.declared.state.Partition.TheVariants.{User, Boot1, Boot2}
use Rattle.sdv_card.specs.declared.command.Setting.TheVariants.{Lines as SetsLines, Access}
use Rattle.sdv_card.specs.declared.command.Order.{Order}
use Rattle.sdv_card.specs.declared.command.Order.TheVariants.{GoIdleState, SendOpCond, AllSendCid, SendRelativeAddress, SetRelativeAddress, SetBusWidth, Switch, SelectCard, DeselectCards, SendIfCond, SendExtCsd, SendCsd, SendCid, StopTransmission, SendStatus, SetBlockLength, ReadSingleBlock, ReadMultipleBlock, SetBlockCount, WriteBlock, WriteMultipleBlock, EraseBlockStart, EraseBlockEnd, EraseGroupStart, EraseGroupEnd, Erase, SdSendOpCond, SendScr, AppCommand}
use Rattle.sdv_card.specs.declared.answer.Answer.{Answer}
use Rattle.sdv_card.specs.declared.answer.Answer.TheVariants.{Sent, TimeOut, Reply as Replied, Damaged}
use Rattle.sdv_card.specs.declared.event.Aim.{Aim}
use Rattle.sdv_card.specs.declared.event.Aim.TheVariants.{Rca, Plain}
use Rattle.sdv_card.specs.declared.event.Ask.{Ask}
use Rattle.sdv_card.specs.declared.event.Event.TheVariants.{Send, RecvBlocks, RecvReg, Give, Wait as Waits}
use Rattle.sdv_card.specs.CommandTable.{aim_number, is_line, is_counted, order_if, sd_order, emmc_order, order_of, order_argument, argument_or_none, order_expect, expect_or_nothing}
use Rattle.sdv_card.specs.Expected.{AnswerExpected}
use Rattle.sdv_card.specs.Card.{Card}
use Rattle.sdv_card.specs.Host.{Host}
use Rattle.sdv_card.specs.ScriptEvent.{ScriptEvent, SendCommand, ReceiveBlocks, ReceiveRegister, GiveBlocks, AwaitReady, Return, Answered, event_of}
use Rattle.sdv_card.specs.HostEvents.{Makes}
use Rattle.sdv_card.specs.Step.{Step}
use Rattle.sdv_card.proofs.Members.{and_left, and_right}
use Rattle.sdv_card.proofs.TableLaws.{steps_are_expected}
use Rattle.sdv_audit.specs.declared.line.TraceLine.{TraceLine}
use Rattle.sdv_audit.specs.declared.line.TraceLine.TheVariants.{Exchange}
use Rattle.sdv_audit.specs.declared.known.HostKnown.{HostKnown}
use Rattle.sdv_audit.specs.declared.turn.Told.{Told}
use Rattle.sdv_audit.specs.declared.turn.Deed.{Deed}
use Rattle.sdv_audit.specs.declared.turn.Deed.TheVariants.{Known, Begins}
use Rattle.sdv_audit.specs.declared.turn.Turn.{Turn}
use Rattle.sdv_audit.specs.declared.turn.Turn.TheVariants.{Ends, Outside, Uses, Resumes, OtherLength, Does}
use Rattle.sdv_audit.specs.Turns.{begins, count_told, is_sent, ask_with, ask_if, ask_told, is_awaited, transfer_ask, turn_of_ask, turn_of_line}
use Rattle.sdv_audit.specs.Standing.{IsToldBy, StepTold, DeedTold, Goes, known_of, turn_behind}

-- WHAT IS MEANT

-- a step by the ask that is meant, with some count where none is told
abbrev pub DeedMeant : Kind → Deed → TraceLine → Card → Host → Card → Host → Type 0
DeedMeant k (Known event) line c h u g = StepTold k event line c h u g
DeedMeant k (Begins write) line c h u g = (count : ℕ) × StepTold k (Send (transfer_ask write count)) line c h u g

-- an ask is the one of a turn, if it has its count
abbrev Means : Ask → Turn → Type 0
Means sent (Does (Known (Send ask))) = sent.count ≡ ask.count → sent ≡ ask
Means sent (Does (Begins w)) = sent ≡ transfer_ask w sent.count
Means sent turn = Unit {0}

-- a host with this address sends the command by the ask, and waits for such an answer
record MaySend (rca : ℕ) (sent : Ask) (order : Order) (command : Command) (answer : Answer) : Type 0 where
  index : command.index ≡ sent.index
  address : ℕ
  argument : command.argument ≡ order_argument order sent.argument rca address
  expected : AnswerExpected (order_expect order sent.index) answer

abbrev turn_at : Kind → (rca : ℕ) → Command → Answer → Option TraceLine → Turn
turn_at k rca c answer next = turn_of_ask (begins c.index next) (c.index == 25) (ask_told k rca c answer next)

-- THE ONE OF SEVERAL

both : (a b : Bool) → a ≡ true → b ≡ true → (a && b) ≡ true
both true b e f = f
both false b e f = e

not_right : (a b : Bool) → b ≡ false → (a && b) ≡ false
not_right true b e = e
not_right false b e = refl

first : (sent : Ask) (b w : Bool) (rest : Option Ask) → b ≡ true → Means sent (turn_of_ask false w (ask_if b sent rest))
first sent true w rest e = λ f. refl
first sent false w rest e = absurd (let f : false ≡ true = e in cc)

second : (sent other : Ask) (b c w : Bool) (rest : Option Ask) → b ≡ false → c ≡ true →
    Means sent (turn_of_ask false w (ask_if b other (ask_if c sent rest)))
second sent other true c w rest e f = absurd (let g : true ≡ false = e in cc)
second sent other false true w rest e f = λ g. refl
second sent other false false w rest e f = absurd (let g : false ≡ true = f in cc)

some_count : (n : ℕ) → 1 ≤ n → n ≡ 0 → ⊥
some_count n some e = let f : 1 ≤ 0 = subst (λ m. 1 ≤ m) e some in absurd (omega (arith, f))

-- a command that announces blocks: no other ask has as many
announces : (i n m argument : ℕ) (untold w a b c d : Bool) → 1 ≤ n → (untold ≡ true → ask_with i Plain 0 n ≡ transfer_ask w n) →
    Means (ask_with i Plain 0 n) (turn_of_ask untold w (ask_if a (ask_with i Rca 0 0) (ask_if b (ask_with i Plain 0 m)
    (ask_if c (ask_with i Plain argument 0) (ask_if d (ask_with i Rca 0 0) None)))))
announces i n m argument true w true b c d some is = is refl
announces i n m argument true w false true c d some is = is refl
announces i n m argument true w false false true d some is = is refl
announces i n m argument true w false false false true some is = is refl
announces i n m argument true w false false false false some is = tt
announces i n m argument false w true b c d some is = λ e. absurd (some_count n some e)
announces i n m argument false w false true c d some is = λ e. ap (λ v. ask_with i Plain 0 v) e
announces i n m argument false w false false true d some is = λ e. absurd (some_count n some e)
announces i n m argument false w false false false true some is = λ e. absurd (some_count n some e)
announces i n m argument false w false false false false some is = tt

-- what is tried of the asks, from one on
abbrev or_addressed : Kind → (rca i x : ℕ) → Option Ask
or_addressed k rca i x = ask_if (is_sent k rca x (ask_with i Rca 0 0)) (ask_with i Rca 0 0) None

abbrev or_own : Kind → (rca i x : ℕ) → Option Ask
or_own k rca i x = ask_if (is_sent k rca x (ask_with i Plain x 0)) (ask_with i Plain x 0) (or_addressed k rca i x)

abbrev or_counted : Kind → (rca i x : ℕ) → Option TraceLine → Option Ask
or_counted k rca i x next =
    ask_if (is_sent k rca x (ask_with i Plain 0 (count_told i x next))) (ask_with i Plain 0 (count_told i x next)) (or_own k rca i x)

counted_means : (k : Kind) (rca i n x : ℕ) (w : Bool) (answer : Answer) (next : Option TraceLine) → 1 ≤ n →
    (begins i next ≡ true → ask_with i Plain 0 n ≡ transfer_ask w n) →
    Means (ask_with i Plain 0 n) (turn_of_ask (begins i next) w (ask_told k rca (record { index = i; argument = x }) answer next))
counted_means k rca i n x w answer next some is =
    announces i n (count_told i x next) x (begins i next) w (is_sent k rca x (ask_with i Rca 0 0) && is_awaited answer)
    (is_sent k rca x (ask_with i Plain 0 (count_told i x next))) (is_sent k rca x (ask_with i Plain x 0)) (is_sent k rca x (ask_with i Rca 0 0)) some is

-- THE LINES of the command tables

aims_same : (a b : Aim) → aim_number a ≡ aim_number b → a ≡ b
aims_same Rca Rca e = refl
aims_same Rca Plain e = absurd (let f : 0 ≡ 1 = e in omega (arith, f))
aims_same Plain Rca e = absurd (let f : 1 ≡ 0 = e in omega (arith, f))
aims_same Plain Plain e = refl

whole : (ask : Ask) (i : ℕ) (aim : Aim) (x n : ℕ) → is_line ask i aim x n ≡ true → ask ≡ ask_with i aim x n
whole ask i aim x n is =
    let front : ((ask.index == i) && (aim_number ask.aim == aim_number aim) && (ask.argument == x)) ≡ true = and_left _ (ask.count == n) is in
    let start : ((ask.index == i) && (aim_number ask.aim == aim_number aim)) ≡ true = and_left _ (ask.argument == x) front in
    let index : ask.index ≡ i = eqb-true ask.index i (and_left _ (aim_number ask.aim == aim_number aim) start) in
    let its_aim : ask.aim ≡ aim = aims_same ask.aim aim (eqb-true (aim_number ask.aim) (aim_number aim) (and_right (ask.index == i) _ start)) in
    let argument : ask.argument ≡ x = eqb-true ask.argument x (and_right _ (ask.argument == x) front) in
    let count : ask.count ≡ n = eqb-true ask.count n (and_right _ (ask.count == n) is) in
    ap (λ v. ask_with v ask.aim ask.argument ask.count) index ∙ (ap (λ v. ask_with i v ask.argument ask.count) its_aim
    ∙ (ap (λ v. ask_with i aim v ask.count) argument ∙ ap (λ v. ask_with i aim x v) count))

-- at one of the lines: what it sends is read as this ask
AtLine : Kind → (rca : ℕ) → Answer → Option TraceLine → (i : ℕ) → Aim → (x n : ℕ) → Order → Type 0
AtLine k rca answer next i aim x n o = (address : ℕ) → AnswerExpected (order_expect o i) answer →
    Means (ask_with i aim x n) (turn_at k rca (record { index = i; argument = order_argument o x rca address }) answer next)

at_line : (k : Kind) (rca : ℕ) (sent : Ask) (order : Order) (command : Command) (answer : Answer) (next : Option TraceLine) (i : ℕ) (aim : Aim) (x n : ℕ)
    (o : Order) → MaySend rca sent order command answer → sent ≡ ask_with i aim x n → o ≡ order → AtLine k rca answer next i aim x n o →
    Means sent (turn_at k rca command answer next)
unfolding AtLine
at_line k rca sent order command answer next i aim x n o m is same at =
    let index : command.index ≡ i = m.index ∙ ap (λ (a : Ask). a.index) is in
    let argument : command.argument ≡ order_argument o x rca m.address =
    m.argument ∙ (ap (λ (a : Ask). order_argument order a.argument rca m.address) is ∙ ap (λ v. order_argument v x rca m.address) (sym same)) in
    let frame : command ≡ record { index = i; argument = order_argument o x rca m.address } =
    ap (λ v. record { index = v; argument = command.argument }) index ∙ ap (λ v. record { index = i; argument = v }) argument in
    let expected : AnswerExpected (order_expect o i) answer =
    subst (λ v. AnswerExpected (order_expect v i) answer) (sym same)
    (subst (λ (a : Ask). AnswerExpected (order_expect order a.index) answer) is m.expected) in
    subst (λ v. Means v (turn_at k rca command answer next)) (sym is)
    (subst (λ v. Means (ask_with i aim x n) (turn_at k rca v answer next)) (sym frame) (at m.address expected))

-- the line is the one, or the order is that of a later line
line : {P : Type 0} (order : Order) (is : Bool) (o : Order) (rest : Option Order) → (is ≡ true → o ≡ order → P) → order_if is o rest ≡ Some order →
    (rest ≡ Some order → P) → P
line order true o rest here e later = let f : o ≡ order = cc in here refl f
line order false o rest here e later = later e

-- WHAT A HOST WAITS FOR

abbrev waits : Expect → Bool
waits Nothing = false
waits expect = true

awaits : (expect : Expect) (answer : Answer) → waits expect ≡ true → AnswerExpected expect answer → is_awaited answer ≡ true
awaits Nothing answer w e = absurd (let f : false ≡ true = w in cc)
awaits expect Sent w e = absurd e
awaits expect TimeOut w e = refl
awaits expect (Replied reply) w e = refl
awaits expect (Damaged fault) w e = refl

unawaited : (answer : Answer) → AnswerExpected Nothing answer → is_awaited answer ≡ false
unawaited Sent e = refl
unawaited answer e = absurd e

its_own : (rca : ℕ) (answer : Answer) → is_awaited answer ≡ true → ((65536 * rca == 65536 * rca) && is_awaited answer) ≡ true
its_own rca answer e = both (65536 * rca == 65536 * rca) (is_awaited answer) (eq-eqb (65536 * rca) (65536 * rca) refl) e

-- THE WALK

line_counted : (ask : Ask) (i : ℕ) → is_counted ask i ≡ true → is_line ask i Plain 0 ask.count ≡ true
line_counted ask i e = and_left (is_line ask i Plain 0 ask.count) _ (and_left _ (nat_le ask.count 65535) e)

some_counted : (ask : Ask) (i : ℕ) → is_counted ask i ≡ true → 1 ≤ ask.count
some_counted ask i e = leb-true 1 ask.count (and_right (is_line ask i Plain 0 ask.count) _ (and_left _ (nat_le ask.count 65535) e))

sd_means : (rca : ℕ) (sent : Ask) (order : Order) (command : Command) (answer : Answer) (next : Option TraceLine) →
    MaySend rca sent order command answer → sd_order sent ≡ Some order → Means sent (turn_at Sd rca command answer next)
unfolding AtLine order_of
sd_means rca sent order command answer next m e =
    line order (is_line sent 0 Plain 0 0) GoIdleState _ (λ i same. at_line Sd rca sent order command answer next 0 Plain 0 0 GoIdleState m
    (whole sent 0 Plain 0 0 i) same (λ a x f. refl)) e (λ e.
    line order (is_line sent 2 Plain 0 0) AllSendCid _ (λ i same. at_line Sd rca sent order command answer next 2 Plain 0 0 AllSendCid m
    (whole sent 2 Plain 0 0 i) same (λ a x f. refl)) e (λ e.
    line order (is_line sent 3 Plain 0 0) SendRelativeAddress _
    (λ i same. at_line Sd rca sent order command answer next 3 Plain 0 0 SendRelativeAddress m
    (whole sent 3 Plain 0 0 i) same (λ a x f. refl)) e (λ e.
    line order (is_line sent 6 Plain 0 0) (SetBusWidth One) _ (λ i same. at_line Sd rca sent order command answer next 6 Plain 0 0 (SetBusWidth One) m
    (whole sent 6 Plain 0 0 i) same (λ a x f. refl)) e (λ e.
    line order (is_line sent 6 Plain 2 0) (SetBusWidth Four) _
    (λ i same. at_line Sd rca sent order command answer next 6 Plain 2 0 (SetBusWidth Four) m
    (whole sent 6 Plain 2 0 i) same (λ a x f. refl)) e (λ e.
    line order (is_line sent 7 Rca 0 0) SelectCard _ (λ i same. at_line Sd rca sent order command answer next 7 Rca 0 0 SelectCard m
    (whole sent 7 Rca 0 0 i) same
    (λ a x. first (ask_with 7 Rca 0 0) ((65536 * rca == 65536 * rca) && is_awaited answer) false (or_counted Sd rca 7 (65536 * rca) next)
    (its_own rca answer (awaits (order_expect SelectCard 7) answer refl x)))) e (λ e.
    line order (is_line sent 7 Plain 0 0) DeselectCards _ (λ i same. at_line Sd rca sent order command answer next 7 Plain 0 0 DeselectCards m
    (whole sent 7 Plain 0 0 i) same
    (λ a x. second (ask_with 7 Plain 0 0) (ask_with 7 Rca 0 0) ((65536 * rca == 0) && is_awaited answer) true false (or_own Sd rca 7 0)
    (not_right (65536 * rca == 0) (is_awaited answer) (unawaited answer x)) refl)) e (λ e.
    line order (is_line sent 8 Plain 0 0) SendIfCond _ (λ i same. at_line Sd rca sent order command answer next 8 Plain 0 0 SendIfCond m
    (whole sent 8 Plain 0 0 i) same (λ a x f. refl)) e (λ e.
    line order (is_line sent 9 Rca 0 0) SendCsd _ (λ i same. at_line Sd rca sent order command answer next 9 Rca 0 0 SendCsd m
    (whole sent 9 Rca 0 0 i) same
    (λ a x. first (ask_with 9 Rca 0 0) ((65536 * rca == 65536 * rca) && is_awaited answer) false (or_counted Sd rca 9 (65536 * rca) next)
    (its_own rca answer (awaits (order_expect SendCsd 9) answer refl x)))) e (λ e.
    line order (is_line sent 10 Rca 0 0) SendCid _ (λ i same. at_line Sd rca sent order command answer next 10 Rca 0 0 SendCid m
    (whole sent 10 Rca 0 0 i) same
    (λ a x. first (ask_with 10 Rca 0 0) ((65536 * rca == 65536 * rca) && is_awaited answer) false (or_counted Sd rca 10 (65536 * rca) next)
    (its_own rca answer (awaits (order_expect SendCid 10) answer refl x)))) e (λ e.
    line order (is_line sent 12 Plain 0 0) StopTransmission _ (λ i same. at_line Sd rca sent order command answer next 12 Plain 0 0 StopTransmission m
    (whole sent 12 Plain 0 0 i) same (λ a x f. refl)) e (λ e.
    line order (is_line sent 13 Rca 0 0) SendStatus _ (λ i same. at_line Sd rca sent order command answer next 13 Rca 0 0 SendStatus m
    (whole sent 13 Rca 0 0 i) same
    (λ a x. first (ask_with 13 Rca 0 0) ((65536 * rca == 65536 * rca) && is_awaited answer) false (or_counted Sd rca 13 (65536 * rca) next)
    (its_own rca answer (awaits (order_expect SendStatus 13) answer refl x)))) e (λ e.
    line order (is_line sent 16 Plain 0 0) SetBlockLength _ (λ i same. at_line Sd rca sent order command answer next 16 Plain 0 0 SetBlockLength m
    (whole sent 16 Plain 0 0 i) same (λ a x f. refl)) e (λ e.
    line order (is_line sent 17 Plain 0 1) ReadSingleBlock _ (λ i same. at_line Sd rca sent order command answer next 17 Plain 0 1 ReadSingleBlock m
    (whole sent 17 Plain 0 1 i) same (λ a x. first (ask_with 17 Plain 0 1) (a == a) false (or_own Sd rca 17 a) (eq-eqb a a refl))) e (λ e.
    line order (is_counted sent 18) (ReadMultipleBlock sent.count) _
    (λ i same. at_line Sd rca sent order command answer next 18 Plain 0 sent.count (ReadMultipleBlock sent.count) m
    (whole sent 18 Plain 0 sent.count (line_counted sent 18 i)) same
    (λ a x. counted_means Sd rca 18 sent.count a false answer next (some_counted sent 18 i) (λ f. refl))) e (λ e.
    line order (is_line sent 24 Plain 0 1) WriteBlock _ (λ i same. at_line Sd rca sent order command answer next 24 Plain 0 1 WriteBlock m
    (whole sent 24 Plain 0 1 i) same (λ a x. first (ask_with 24 Plain 0 1) (a == a) false (or_own Sd rca 24 a) (eq-eqb a a refl))) e (λ e.
    line order (is_counted sent 25) (WriteMultipleBlock sent.count) _
    (λ i same. at_line Sd rca sent order command answer next 25 Plain 0 sent.count (WriteMultipleBlock sent.count) m
    (whole sent 25 Plain 0 sent.count (line_counted sent 25 i)) same
    (λ a x. counted_means Sd rca 25 sent.count a true answer next (some_counted sent 25 i) (λ f. refl))) e (λ e.
    line order (is_line sent 32 Plain 0 0) EraseBlockStart _ (λ i same. at_line Sd rca sent order command answer next 32 Plain 0 0 EraseBlockStart m
    (whole sent 32 Plain 0 0 i) same (λ a x. first (ask_with 32 Plain 0 0) (a == a) false (or_own Sd rca 32 a) (eq-eqb a a refl))) e (λ e.
    line order (is_line sent 33 Plain 0 0) EraseBlockEnd _ (λ i same. at_line Sd rca sent order command answer next 33 Plain 0 0 EraseBlockEnd m
    (whole sent 33 Plain 0 0 i) same (λ a x. first (ask_with 33 Plain 0 0) (a == a) false (or_own Sd rca 33 a) (eq-eqb a a refl))) e (λ e.
    line order (is_line sent 38 Plain 0 0) Erase _ (λ i same. at_line Sd rca sent order command answer next 38 Plain 0 0 Erase m
    (whole sent 38 Plain 0 0 i) same (λ a x f. refl)) e (λ e.
    line order (is_line sent 41 Plain 0x00ff8000 0) (SdSendOpCond false) _
    (λ i same. at_line Sd rca sent order command answer next 41 Plain 0x00ff8000 0 (SdSendOpCond false) m
    (whole sent 41 Plain 0x00ff8000 0 i) same (λ a x f. refl)) e (λ e.
    line order (is_line sent 41 Plain 0x40ff8000 0) (SdSendOpCond true) _
    (λ i same. at_line Sd rca sent order command answer next 41 Plain 0x40ff8000 0 (SdSendOpCond true) m
    (whole sent 41 Plain 0x40ff8000 0 i) same (λ a x f. refl)) e (λ e.
    line order (is_line sent 51 Plain 0 0) SendScr _ (λ i same. at_line Sd rca sent order command answer next 51 Plain 0 0 SendScr m
    (whole sent 51 Plain 0 0 i) same (λ a x f. refl)) e (λ e.
    line order (is_line sent 55 Rca 0 0) AppCommand _ (λ i same. at_line Sd rca sent order command answer next 55 Rca 0 0 AppCommand m
    (whole sent 55 Rca 0 0 i) same
    (λ a x. first (ask_with 55 Rca 0 0) ((65536 * rca == 65536 * rca) && is_awaited answer) false (or_counted Sd rca 55 (65536 * rca) next)
    (its_own rca answer (awaits (order_expect AppCommand 55) answer refl x)))) e (λ e.
    absurd (cc)))))))))))))))))))))))))

emmc_means : (rca : ℕ) (sent : Ask) (order : Order) (command : Command) (answer : Answer) (next : Option TraceLine) →
    MaySend rca sent order command answer → emmc_order sent ≡ Some order → Means sent (turn_at Emmc rca command answer next)
unfolding AtLine order_of
emmc_means rca sent order command answer next m e =
    line order (is_line sent 0 Plain 0 0) GoIdleState _ (λ i same. at_line Emmc rca sent order command answer next 0 Plain 0 0 GoIdleState m
    (whole sent 0 Plain 0 0 i) same (λ a x f. refl)) e (λ e.
    line order (is_line sent 1 Plain 0 0) SendOpCond _ (λ i same. at_line Emmc rca sent order command answer next 1 Plain 0 0 SendOpCond m
    (whole sent 1 Plain 0 0 i) same (λ a x f. refl)) e (λ e.
    line order (is_line sent 2 Plain 0 0) AllSendCid _ (λ i same. at_line Emmc rca sent order command answer next 2 Plain 0 0 AllSendCid m
    (whole sent 2 Plain 0 0 i) same (λ a x f. refl)) e (λ e.
    line order (is_line sent 3 Plain 0 0) SetRelativeAddress _
    (λ i same. at_line Emmc rca sent order command answer next 3 Plain 0 0 SetRelativeAddress m
    (whole sent 3 Plain 0 0 i) same (λ a x f. refl)) e (λ e.
    line order (is_line sent 6 Plain 0x03b70000 0) (Switch (SetsLines One)) _
    (λ i same. at_line Emmc rca sent order command answer next 6 Plain 0x03b70000 0 (Switch (SetsLines One)) m
    (whole sent 6 Plain 0x03b70000 0 i) same (λ a x f. refl)) e (λ e.
    line order (is_line sent 6 Plain 0x03b70100 0) (Switch (SetsLines Four)) _
    (λ i same. at_line Emmc rca sent order command answer next 6 Plain 0x03b70100 0 (Switch (SetsLines Four)) m
    (whole sent 6 Plain 0x03b70100 0 i) same (λ a x f. refl)) e (λ e.
    line order (is_line sent 6 Plain 0x03b70200 0) (Switch (SetsLines Eight)) _
    (λ i same. at_line Emmc rca sent order command answer next 6 Plain 0x03b70200 0 (Switch (SetsLines Eight)) m
    (whole sent 6 Plain 0x03b70200 0 i) same (λ a x f. refl)) e (λ e.
    line order (is_line sent 6 Plain 0x03b30000 0) (Switch (Access User)) _
    (λ i same. at_line Emmc rca sent order command answer next 6 Plain 0x03b30000 0 (Switch (Access User)) m
    (whole sent 6 Plain 0x03b30000 0 i) same (λ a x f. refl)) e (λ e.
    line order (is_line sent 6 Plain 0x03b30100 0) (Switch (Access Boot1)) _
    (λ i same. at_line Emmc rca sent order command answer next 6 Plain 0x03b30100 0 (Switch (Access Boot1)) m
    (whole sent 6 Plain 0x03b30100 0 i) same (λ a x f. refl)) e (λ e.
    line order (is_line sent 6 Plain 0x03b30200 0) (Switch (Access Boot2)) _
    (λ i same. at_line Emmc rca sent order command answer next 6 Plain 0x03b30200 0 (Switch (Access Boot2)) m
    (whole sent 6 Plain 0x03b30200 0 i) same (λ a x f. refl)) e (λ e.
    line order (is_line sent 7 Rca 0 0) SelectCard _ (λ i same. at_line Emmc rca sent order command answer next 7 Rca 0 0 SelectCard m
    (whole sent 7 Rca 0 0 i) same
    (λ a x. first (ask_with 7 Rca 0 0) ((65536 * rca == 65536 * rca) && is_awaited answer) false (or_counted Emmc rca 7 (65536 * rca) next)
    (its_own rca answer (awaits (order_expect SelectCard 7) answer refl x)))) e (λ e.
    line order (is_line sent 7 Plain 0 0) DeselectCards _ (λ i same. at_line Emmc rca sent order command answer next 7 Plain 0 0 DeselectCards m
    (whole sent 7 Plain 0 0 i) same
    (λ a x. second (ask_with 7 Plain 0 0) (ask_with 7 Rca 0 0) ((65536 * rca == 0) && is_awaited answer) true false (or_own Emmc rca 7 0)
    (not_right (65536 * rca == 0) (is_awaited answer) (unawaited answer x)) refl)) e (λ e.
    line order (is_line sent 8 Plain 0 0) SendExtCsd _ (λ i same. at_line Emmc rca sent order command answer next 8 Plain 0 0 SendExtCsd m
    (whole sent 8 Plain 0 0 i) same (λ a x f. refl)) e (λ e.
    line order (is_line sent 9 Rca 0 0) SendCsd _ (λ i same. at_line Emmc rca sent order command answer next 9 Rca 0 0 SendCsd m
    (whole sent 9 Rca 0 0 i) same
    (λ a x. first (ask_with 9 Rca 0 0) ((65536 * rca == 65536 * rca) && is_awaited answer) false (or_counted Emmc rca 9 (65536 * rca) next)
    (its_own rca answer (awaits (order_expect SendCsd 9) answer refl x)))) e (λ e.
    line order (is_line sent 10 Rca 0 0) SendCid _ (λ i same. at_line Emmc rca sent order command answer next 10 Rca 0 0 SendCid m
    (whole sent 10 Rca 0 0 i) same
    (λ a x. first (ask_with 10 Rca 0 0) ((65536 * rca == 65536 * rca) && is_awaited answer) false (or_counted Emmc rca 10 (65536 * rca) next)
    (its_own rca answer (awaits (order_expect SendCid 10) answer refl x)))) e (λ e.
    line order (is_line sent 12 Plain 0 0) StopTransmission _
    (λ i same. at_line Emmc rca sent order command answer next 12 Plain 0 0 StopTransmission m
    (whole sent 12 Plain 0 0 i) same (λ a x f. refl)) e (λ e.
    line order (is_line sent 13 Rca 0 0) SendStatus _ (λ i same. at_line Emmc rca sent order command answer next 13 Rca 0 0 SendStatus m
    (whole sent 13 Rca 0 0 i) same
    (λ a x. first (ask_with 13 Rca 0 0) ((65536 * rca == 65536 * rca) && is_awaited answer) false (or_counted Emmc rca 13 (65536 * rca) next)
    (its_own rca answer (awaits (order_expect SendStatus 13) answer refl x)))) e (λ e.
    line order (is_line sent 16 Plain 0 0) SetBlockLength _ (λ i same. at_line Emmc rca sent order command answer next 16 Plain 0 0 SetBlockLength m
    (whole sent 16 Plain 0 0 i) same (λ a x f. refl)) e (λ e.
    line order (is_line sent 17 Plain 0 1) ReadSingleBlock _ (λ i same. at_line Emmc rca sent order command answer next 17 Plain 0 1 ReadSingleBlock m
    (whole sent 17 Plain 0 1 i) same (λ a x. first (ask_with 17 Plain 0 1) (a == a) false (or_own Emmc rca 17 a) (eq-eqb a a refl))) e (λ e.
    line order (is_counted sent 18) (ReadMultipleBlock sent.count) _
    (λ i same. at_line Emmc rca sent order command answer next 18 Plain 0 sent.count (ReadMultipleBlock sent.count) m
    (whole sent 18 Plain 0 sent.count (line_counted sent 18 i)) same
    (λ a x. counted_means Emmc rca 18 sent.count a false answer next (some_counted sent 18 i) (λ f. refl))) e (λ e.
    line order (is_counted sent 23) (SetBlockCount sent.count) _
    (λ i same. at_line Emmc rca sent order command answer next 23 Plain 0 sent.count (SetBlockCount sent.count) m
    (whole sent 23 Plain 0 sent.count (line_counted sent 23 i)) same
    (λ a x. counted_means Emmc rca 23 sent.count sent.count false answer next
    (some_counted sent 23 i) (λ f. absurd (let g : false ≡ true = f in cc)))) e (λ e.
    line order (is_line sent 24 Plain 0 1) WriteBlock _ (λ i same. at_line Emmc rca sent order command answer next 24 Plain 0 1 WriteBlock m
    (whole sent 24 Plain 0 1 i) same (λ a x. first (ask_with 24 Plain 0 1) (a == a) false (or_own Emmc rca 24 a) (eq-eqb a a refl))) e (λ e.
    line order (is_counted sent 25) (WriteMultipleBlock sent.count) _
    (λ i same. at_line Emmc rca sent order command answer next 25 Plain 0 sent.count (WriteMultipleBlock sent.count) m
    (whole sent 25 Plain 0 sent.count (line_counted sent 25 i)) same
    (λ a x. counted_means Emmc rca 25 sent.count a true answer next (some_counted sent 25 i) (λ f. refl))) e (λ e.
    line order (is_line sent 35 Plain 0 0) EraseGroupStart _ (λ i same. at_line Emmc rca sent order command answer next 35 Plain 0 0 EraseGroupStart m
    (whole sent 35 Plain 0 0 i) same (λ a x. first (ask_with 35 Plain 0 0) (a == a) false (or_own Emmc rca 35 a) (eq-eqb a a refl))) e (λ e.
    line order (is_line sent 36 Plain 0 0) EraseGroupEnd _ (λ i same. at_line Emmc rca sent order command answer next 36 Plain 0 0 EraseGroupEnd m
    (whole sent 36 Plain 0 0 i) same (λ a x. first (ask_with 36 Plain 0 0) (a == a) false (or_own Emmc rca 36 a) (eq-eqb a a refl))) e (λ e.
    line order (is_line sent 38 Plain 0 0) Erase _ (λ i same. at_line Emmc rca sent order command answer next 38 Plain 0 0 Erase m
    (whole sent 38 Plain 0 0 i) same (λ a x f. refl)) e (λ e.
    line order (is_line sent 38 Plain 1 0) Erase _ (λ i same. at_line Emmc rca sent order command answer next 38 Plain 1 0 Erase m
    (whole sent 38 Plain 1 0 i) same (λ a x f. refl)) e (λ e.
    line order (is_line sent 38 Plain 3 0) Erase _ (λ i same. at_line Emmc rca sent order command answer next 38 Plain 3 0 Erase m
    (whole sent 38 Plain 3 0 i) same (λ a x f. refl)) e (λ e.
    absurd (cc)))))))))))))))))))))))))))))

means : (k : Kind) (rca : ℕ) (sent : Ask) (order : Order) (command : Command) (answer : Answer) (next : Option TraceLine) →
    MaySend rca sent order command answer → order_of k sent ≡ Some order → Means sent (turn_at k rca command answer next)
unfolding order_of
means Sd rca sent order command answer next m e = sd_means rca sent order command answer next m e
means Emmc rca sent order command answer next m e = emmc_means rca sent order command answer next m e

-- A STEP by any ask is one by the ask that is meant

expected_by : (k : Kind) (o : Option Order) (order : Order) (index : ℕ) (answer : Answer) → o ≡ Some order →
    AnswerExpected (expect_or_nothing o index) answer → AnswerExpected (order_expect order index) answer
expected_by k o order index answer e x = subst (λ v. AnswerExpected (expect_or_nothing v index) answer) e x

sent_by : (k : Kind) (o : Option Order) (order : Order) (argument rca address sent : ℕ) → o ≡ Some order → sent ≡ argument_or_none o argument rca address →
    sent ≡ order_argument order argument rca address
sent_by k o order argument rca address sent e f = f ∙ ap (λ v. argument_or_none v argument rca address) e

-- what a step tells of its ask
step_means : (k : Kind) (known : HostKnown) (line : TraceLine) (next : Option TraceLine) (sent : Ask) (x : ScriptEvent) (c : Card) (h : Host)
    (returned : Return) (u : Card) → k ≡ c.kind → h.rca ≡ known.rca → event_of x ≡ Send sent → IsToldBy line x returned → Makes k x h → Step x c returned u →
    Means sent (turn_of_line k known line next)
step_means k known (Exchange command answer) next sent (SendCommand ask position argument) c h (Answered heard) u kind rca is told made step =
    let same : ask ≡ sent = cc in
    let order : order_of k ask ≡ Some step.order = subst (λ v. order_of v ask ≡ Some step.order) (sym kind) step.asks.line in
    let may : MaySend known.rca ask step.order command answer = record {
      index = ap (λ (v : Command). v.index) told.0;
      address = made.address;
      argument = ap (λ (v : Command). v.argument) told.0
          ∙ sent_by k (order_of k ask) step.order ask.argument known.rca made.address argument order
          (made.same ∙ ap (λ n. argument_or_none (order_of k ask) ask.argument n made.address) rca);
      expected = expected_by k (order_of k ask) step.order ask.index answer order
          (subst (λ v. AnswerExpected (expect_or_nothing (order_of k ask) ask.index) v) (sym told.1)
          (steps_are_expected k (SendCommand ask position argument) c (Answered heard) u kind step));
    } in
    subst (λ v. Means v (turn_of_line k known (Exchange command answer) next)) same
    (means k known.rca ask step.order command answer next may order)
step_means k known line next sent (SendCommand ask position argument) c h returned u kind rca is told made step = absurd told
step_means k known line next sent (ReceiveBlocks lines count) c h returned u kind rca is told made step = absurd (cc)
step_means k known line next sent (ReceiveRegister lines count) c h returned u kind rca is told made step = absurd (cc)
step_means k known line next sent (GiveBlocks lines blocks) c h returned u kind rca is told made step = absurd (cc)
step_means k known line next sent AwaitReady c h returned u kind rca is told made step = absurd (cc)

told_means : (k : Kind) (known : HostKnown) (line : TraceLine) (next : Option TraceLine) (sent : Ask) (c : Card) (h : Host) (u : Card) (g : Host) → k ≡ c.kind →
    h.rca ≡ known.rca → StepTold k (Send sent) line c h u g → Means sent (turn_of_line k known line next)
told_means k known line next sent c h u g kind rca s =
    step_means k known line next sent s.made_event c h s.returned u kind rca s.is s.told s.made s.step

deed_meant : (k : Kind) (known : HostKnown) (line : TraceLine) (next : Option TraceLine) (deed : Deed) (c : Card) (h : Host) (u : Card) (g : Host) → k ≡ c.kind →
    h.rca ≡ known.rca → turn_of_line k known line next ≡ Does deed → DeedTold k deed line c h u g → DeedMeant k deed line c h u g
deed_meant k known line next (Known (Send ask)) c h u g kind rca is (sent, count, s) =
    let m : Means sent (Does (Known (Send ask))) = subst (λ t. Means sent t) is (told_means k known line next sent c h u g kind rca s) in
    subst (λ v. StepTold k (Send v) line c h u g) (m count) s
deed_meant k known line next (Known RecvBlocks) c h u g kind rca is s = s
deed_meant k known line next (Known RecvReg) c h u g kind rca is s = s
deed_meant k known line next (Known Give) c h u g kind rca is s = s
deed_meant k known line next (Known Waits) c h u g kind rca is s = s
deed_meant k known line next (Begins w) c h u g kind rca is (sent, any, s) =
    let m : Means sent (Does (Begins w)) = subst (λ t. Means sent t) is (told_means k known line next sent c h u g kind rca s) in
    (sent.count, subst (λ v. StepTold k (Send v) line c h u g) m s)

-- one line, as it is meant
abbrev pub GoesMeant : Kind → Turn → TraceLine → Card → Host → Card → Host → Type 0
GoesMeant k (Does deed) line c h u g = DeedMeant k deed line c h u g
GoesMeant k turn line c h u g = Goes k turn line c h u g

by_turn : (k : Kind) (known : HostKnown) (line : TraceLine) (next : Option TraceLine) (turn : Turn) (c : Card) (h : Host) (u : Card) (g : Host) → k ≡ c.kind →
    h.rca ≡ known.rca → turn_of_line k known line next ≡ turn → Goes k turn line c h u g → GoesMeant k turn line c h u g
by_turn k known line next (Does deed) c h u g kind rca is goes = deed_meant k known line next deed c h u g kind rca is goes
by_turn k known line next (Uses width) c h u g kind rca is goes = goes
by_turn k known line next (Resumes rca lines) c h u g kind rca_is is goes = goes
by_turn k known line next (OtherLength due) c h u g kind rca is goes = goes
by_turn k known line next Ends c h u g kind rca is goes = goes
by_turn k known line next Outside c h u g kind rca is goes = goes

-- beside a host of whom this is known
pub goes_meant : (k : Kind) (past : List Told) (told : Told) (c : Card) (h : Host) (u : Card) (g : Host) → k ≡ c.kind → h.rca ≡ (known_of k past).rca →
    Goes k (turn_behind k past told) told.line c h u g → GoesMeant k (turn_behind k past told) told.line c h u g
goes_meant k past told c h u g kind rca goes =
    by_turn k (known_of k past) told.line told.next (turn_behind k past told) c h u g kind rca refl goes
