-- What an audit knows after one line more.
use Rattle.std.proofs.Common.{◌≡◌, ◌⊎◌, inl, inr, ap, subst, sym, ◌∙◌, Bool, true, false, not, ◌&&◌, List, [], ◌∷◌, Option, Some, None, ◌↔◌}
use Rattle.std.specs.Prelude.{is_none, IfOk, IfSome, IsTrue, MatchOption, OnOk, Result, Ok, Err}
use Rattle.sdv_registers.specs.declared.kind.Kind.{Kind}
use Rattle.sdv_card.specs.declared.shape.Shape.{Shape}
use Rattle.sdv_card.specs.Lists.{May}
use Rattle.sdv_card.proofs.Members.{and_left}
use Rattle.sdv_audit.specs.declared.known.HostKnown.{HostKnown}
use Rattle.sdv_audit.specs.declared.turn.Told.{Told}
use Rattle.sdv_audit.specs.declared.turn.Turn.{Turn}
use Rattle.sdv_audit.specs.declared.turn.Turn.TheVariants.{Ends, Outside, Uses, Resumes, OtherLength, Does}
use Rattle.sdv_audit.specs.declared.audit.Audit.{Audit}
use Rattle.sdv_audit.specs.declared.audit.Findings.{Findings}
use Rattle.sdv_audit.specs.declared.fault.AuditFault.{AuditFault}
use Rattle.sdv_audit.specs.Turns.{turn_of, known_after, is_expected}
use Rattle.sdv_audit.specs.declared.line.TraceLine.{TraceLine}
use Rattle.sdv_audit.specs.declared.turn.Deed.{Deed}
use Rattle.sdv_audit.specs.Carried.{has_address, Carried, CarriedBy, Follows}
use Rattle.sdv_audit.specs.Standing.{known_of, turn_behind, shape_of, Covers, NoneAnswers}
use Rattle.sdv_audit.specs.Audited.{is_empty, Stands, AllBeyond, NotReckless, NoneLegal, IsForbidden, IsForbiddenThere, IsIllegalAt, is_unanswered, lines_told, running_told, address_told, resumes, restarts, StandsOn, IsRecklessThere, NoneAnswersThere, NoneAnswersBehind, Followed, Behind}
use Rattle.sdv_audit.specs.Lived.{turn_within, LivedFor, IsReckless}
use Rattle.sdv_audit.specs.Beyond.{is_beyond, NoneInBounds}
use Rattle.sdv_audit.proofs.Bounded.{none_in_bounds}
use Rattle.sdv_audit.proofs.Sound.{covers_more}
use Rattle.sdv_audit.proofs.Living.{lives_on, some_lived, does_recklessly}

-- what is known, and the shapes, fit one line more
pub record FitsMore (k : Kind) (known : HostKnown) (shapes : List Shape) (past : List Told) : Type 0 where
  pub known_is : known ≡ known_of k past
  pub covers : Covers k past shapes

-- shapes of real cards lead to those of real cards
pub lived_more : (k : Kind) (known : HostKnown) (shapes after : List Shape) (turn : Turn) (told : Told) (past : List Told) →
    known ≡ known_of k past → turn ≡ turn_of k known told → ((s : Shape) → May after s ↔ Follows k turn told.line known shapes s) →
    ((s : Shape) → May shapes s → LivedFor k past known.announced s) → ((s : Shape) → May shapes s → turn_within k turn told.line s.0 ≡ true) →
    (s : Shape) → May after s → LivedFor k (told ∷ past) (known_of k (told ∷ past)).announced s
lived_more k known shapes after turn told past is_known is_turn members lived in_bounds s m =
    let same_turn : turn ≡ turn_behind k past told = is_turn ∙ ap (λ v. turn_of k v told) is_known in
    lives_on k past told shapes s (λ t n. subst (λ v. LivedFor k past v.announced t) is_known (lived t n))
    (λ t n. subst (λ v. turn_within k v told.line t.0 ≡ true) same_turn (in_bounds t n))
    (subst (λ t. Follows k t told.line (known_of k past) shapes s) same_turn
    (subst (λ v. Follows k turn told.line v shapes s) is_known ((members s).0 m)))

-- where the address is beyond the CSD's blocks
pub no_bounds : (old : Audit) (turn : Turn) (told : Told) (past : List Told) → turn ≡ turn_of old.kind old.known told → AllBeyond old turn told.line →
    Stands old past → NoneInBounds old.kind past told
no_bounds old turn told past is_turn all stands =
    let same_turn : turn ≡ turn_behind old.kind past told = is_turn ∙ ap (λ v. turn_of old.kind v told) stands.known in
    none_in_bounds old.kind past told old.shapes.items stands.covers
    (λ s m. subst (λ t. is_beyond old.kind (known_of old.kind past) t told.line s.0 ≡ true) same_turn
    (subst (λ v. is_beyond old.kind v turn told.line s.0 ≡ true) stands.known (all s m)))

-- where the host is reckless
pub real_reckless : (old : Audit) (turn : Turn) (s : Shape) (past : List Told) → IsIllegalAt old turn s → Stands old past → old.bounded ≡ true →
    IsReckless old.kind past turn s
real_reckless old (Does deed) s past x stands bounded =
    does_recklessly old.kind past deed s (some_lived old.kind past old.known.announced s (stands.lived bounded s x.0)) x.1
real_reckless old (Uses width) s past x stands bounded = absurd x
real_reckless old (Resumes rca lines) s past x stands bounded = absurd x
real_reckless old (OtherLength due) s past x stands bounded = absurd x
real_reckless old Ends s past x stands bounded = absurd x
real_reckless old Outside s past x stands bounded = absurd x

pub some_reckless : (old : Audit) (turn : Turn) (o : Option Shape) → MatchOption o (NotReckless old turn) (IsIllegalAt old turn) →
    IfSome o (λ s. (past : List Told) → Stands old past → old.bounded ≡ true → IsReckless old.kind past turn s)
some_reckless old turn None x = tt
some_reckless old turn (Some s) x = λ past stands bounded. real_reckless old turn s past x stands bounded

pub one_more : (k : Kind) (known after_known : HostKnown) (shapes after : List Shape) (turn : Turn) (told : Told) (past : List Told) →
    known ≡ known_of k past → Covers k past shapes → turn ≡ turn_of k known told → after_known ≡ known_after k turn told.line known →
    ((s : Shape) → May after s ↔ Follows k turn told.line known shapes s) →
    FitsMore k after_known after (told ∷ past)
one_more k known after_known shapes after turn told past is_known covers is_turn is_after members =
    let same_turn : turn ≡ turn_behind k past told = is_turn ∙ ap (λ v. turn_of k v told) is_known in
    record {
      known_is = is_after ∙ (ap (λ t. known_after k t told.line known) same_turn ∙ ap (λ v. known_after k (turn_behind k past told) told.line v) is_known);
      covers = covers_more k past told shapes after covers
          (λ s f. (members s).1 (subst (λ t. Follows k t told.line known shapes s) (sym same_turn)
          (subst (λ v. Follows k (turn_behind k past told) told.line v shapes s) (sym is_known) f)));
    }

-- where no shape is left, no card answers so
pub none_left : (k : Kind) (past : List Told) (shapes : List Shape) → is_empty shapes ≡ true → Covers k past shapes → NoneAnswers k past
none_left k past [] e covers = λ c h s. (covers c h s).one
none_left k past (x ∷ rest) e covers = absurd (let f : false ≡ true = e in cc)

pub left_empty : (reckless : Option Shape) (before after : List Shape) → is_unanswered reckless before after ≡ true → is_empty after ≡ true
left_empty reckless before after e = and_left (is_empty after) (is_none reckless) (and_left (is_empty after && is_none reckless) (not (is_empty before)) e)

-- where the event is legal at no shape, none follows
carried_one : (b : Bool) (k : Kind) (deed : Deed) (line : TraceLine) (address : Bool) (shapes : List Shape) (t : Shape) → CarriedBy b k deed line address shapes t →
    Carried k deed line address shapes t
carried_one true k deed line address shapes t c = c
carried_one false k deed line address shapes t c = absurd c

pub none_follows : (old : Audit) (turn : Turn) (line : TraceLine) (s t : Shape) → IsIllegalAt old turn s → NoneLegal old turn →
    Follows old.kind turn line old.known old.shapes.items t → ⊥
none_follows old (Does deed) line s t x none f =
    let c : Carried old.kind deed line (has_address old.known) old.shapes.items t =
    carried_one (is_expected old.kind old.known.csd deed line) old.kind deed line (has_address old.known) old.shapes.items t f in
    let e : true ≡ false = sym c.from.legal ∙ none c.source c.among in
    cc
none_follows old (Uses width) line s t x none f = x
none_follows old (Resumes rca lines) line s t x none f = x
none_follows old (OtherLength due) line s t x none f = x
none_follows old Ends line s t x none f = x
none_follows old Outside line s t x none f = x

none_covered : (k : Kind) (past : List Told) (shapes : List Shape) → ((t : Shape) → May shapes t → ⊥) → Covers k past shapes → NoneAnswers k past
none_covered k past shapes none covers = λ c h s. none (shape_of c h) (covers c h s)

if_forbidden : (old : Audit) (told : Told) (o : Option Shape) (resumed : Bool) → resumed ≡ false → IfSome o (IsForbiddenThere old told) →
    IfSome o (λ s. (resumed ≡ true) ⊎ (old.running ≡ true) → NoneAnswersBehind resumed old told)
if_forbidden old told None resumed e f = tt
if_forbidden old told (Some s) resumed e f = λ either past b.
    elim either [
      | inl g ↦ absurd (let h : true ≡ false = sym g ∙ e in cc)
      | inr g ↦ f g past (subst (λ v. Behind false v old told past) e b)
    ]

if_again : (old : Audit) (told : Told) (o : Option Shape) (resumed : Bool) → resumed ≡ true → IfSome o (λ s. NoneAnswersBehind true old told) →
    IfSome o (λ s. (resumed ≡ true) ⊎ (old.running ≡ true) → NoneAnswersBehind resumed old told)
if_again old told None resumed e f = tt
if_again old told (Some s) resumed e f = λ either past b. f past (subst (λ v. Behind false v old told past) e b)

-- so no card answers, if the card could be in any state
pub some_forbidden : (old : Audit) (turn : Turn) (told : Told) (after : List Shape) (o : Option Shape) → MatchOption o (NotReckless old turn) (IsIllegalAt old turn) →
    IfSome o (IsForbidden old turn) → ((t : Shape) → May after t → Follows old.kind turn told.line old.known old.shapes.items t) →
    ((past : List Told) → Stands old past → Covers old.kind (told ∷ past) after) → IfSome o (IsForbiddenThere old told)
some_forbidden old turn told after None m f follow covers = tt
some_forbidden old turn told after (Some s) m f follow covers = λ e past stands.
    none_covered old.kind (told ∷ past) after (λ t n. none_follows old turn told.line s t m (f e) (follow t n)) (covers past stands)

-- and where it begins anew
pub unanswered_anew : (old audit : Audit) (told : Told) (resumed : Bool) (past : List Told) → audit.kind ≡ old.kind → Stands audit (told ∷ lines_told old.known.lines ∷ []) →
    is_empty audit.shapes.items ≡ true → Behind true resumed old told past → NoneAnswers old.kind (told ∷ past)
unanswered_anew old audit told resumed past same s e b =
    subst (λ p. NoneAnswers old.kind (told ∷ p)) (sym b)
    (subst (λ k. NoneAnswers k (told ∷ lines_told old.known.lines ∷ [])) same
    (none_left audit.kind (told ∷ lines_told old.known.lines ∷ []) audit.shapes.items e s.covers))

-- what an audit says of a line, where it goes on
pub followed_on : (old new : Audit) (told : Told) (r : Result Findings AuditFault) → resumes old told ≡ false →
    IfOk r (λ found. (found.restarted ≡ false) × (found.resumed ≡ false)) → OnOk r (StandsOn old new told) →
    IfOk r (λ found. found.turn ≡ turn_of old.kind old.known told) →
    IfOk r (λ found. MatchOption found.reckless (NotReckless old found.turn) (IsIllegalAt old found.turn)) →
    IfOk r (λ found. IfSome found.reckless (IsRecklessThere old found.turn)) → IfOk r (λ found. IfSome found.reckless (IsForbiddenThere old told)) →
    IfOk r (λ found. found.unanswered ≡ true → NoneAnswersThere old told) →
    IfOk r (λ found. IsTrue found.beyond ↔ ((is_empty old.shapes.items ≡ false) × AllBeyond old found.turn told.line)) →
    IfOk r (λ found. found.beyond ≡ true → (past : List Told) → Stands old past → NoneInBounds old.kind past told) → IfOk r (Followed old new told)
followed_on old new told (Ok found) goes g stands turn reckless real forbidden unanswered passed beyond = record {
  restarted = g.0;
  resumed = g.1 ∙ sym goes;
  stands = λ past b. stands past (subst (λ v. Behind false v old told past) g.1 b);
  unanswered = λ e past b. unanswered e past (subst (λ v. Behind false v old told past) g.1 b);
  forbidden = if_forbidden old told found.reckless found.resumed g.1 forbidden;
  here = λ e. record { turn = turn; reckless = reckless; real = real; passed = passed; beyond = beyond };
}
followed_on old new told (Err fault) goes g stands turn reckless real forbidden unanswered passed beyond = tt

pub stands_there : (old new : Audit) (told : Told) (r : Result Findings AuditFault) → IfOk r (Followed old new told) →
    IfOk r (λ found. (past : List Told) → Behind found.restarted found.resumed old told past → Stands new (told ∷ past))
stands_there old new told (Ok found) f = λ past b. f.stands past (subst (λ v. Behind v found.resumed old told past) f.restarted b)
stands_there old new told (Err fault) f = tt

pub unanswered_there : (old new : Audit) (told : Told) (r : Result Findings AuditFault) → IfOk r (Followed old new told) →
    IfOk r (λ found. found.unanswered ≡ true → (past : List Told) → Behind found.restarted found.resumed old told past → NoneAnswers old.kind (told ∷ past))
unanswered_there old new told (Ok found) f = λ e past b. f.unanswered e past (subst (λ v. Behind v found.resumed old told past) f.restarted b)
unanswered_there old new told (Err fault) f = tt

pub followed_there : (old new : Audit) (told : Told) (r : Result Findings AuditFault) → IfOk r (Followed old new told) →
    IfOk r (λ found. found.restarted ≡ false → Followed old new told found)
followed_there old new told (Ok found) f = λ e. f
followed_there old new told (Err fault) f = tt

pub restarted_there : (old new : Audit) (told : Told) (r : Result Findings AuditFault) → restarts old told ≡ false → IfOk r (Followed old new told) →
    IfOk r (λ found. found.restarted ≡ restarts old told)
restarted_there old new told (Ok found) e f = f.restarted ∙ sym e
restarted_there old new told (Err fault) e f = tt

pub anew_there : (old new : Audit) (told : Told) (r : Result Findings AuditFault) → IfOk r (Followed old new told) →
    IfOk r (λ found. found.restarted ≡ true → (found.reckless ≡ None) × (found.beyond ≡ false) × (found.unanswered ≡ is_empty new.shapes.items))
anew_there old new told (Ok found) f = λ e. absurd (let g : true ≡ false = sym e ∙ f.restarted in cc)
anew_there old new told (Err fault) f = tt

-- an audit of a card in any state speaks of it
pub again_none : (old audit : Audit) (told : Told) → audit.kind ≡ old.kind →
    Stands audit (running_told (address_told told.line old.known) old.known.lines ∷ []) → NoneAnswersThere audit told → NoneAnswersBehind true old told
again_none old audit told same s none = λ past b.
    subst (λ p. NoneAnswers old.kind (told ∷ p)) (sym b)
    (subst (λ k. NoneAnswers k (told ∷ running_told (address_told told.line old.known) old.known.lines ∷ [])) same
    (none (running_told (address_told told.line old.known) old.known.lines ∷ []) s))

-- and from any state
pub followed_again : (old new : Audit) (told : Told) (found : Findings) → resumes old told ≡ true → (found.restarted ≡ false) × (found.resumed ≡ true) →
    ((past : List Told) → Behind false true old told past → Stands new (told ∷ past)) → IfSome found.reckless (λ s. NoneAnswersBehind true old told) →
    (found.unanswered ≡ true → NoneAnswersBehind true old told) → Followed old new told found
followed_again old new told found resuming g stands forbidden unanswered = record {
  restarted = g.0;
  resumed = g.1 ∙ sym resuming;
  stands = λ past b. stands past (subst (λ v. Behind false v old told past) g.1 b);
  unanswered = λ e past b. unanswered e past (subst (λ v. Behind false v old told past) g.1 b);
  forbidden = if_again old told found.reckless found.resumed g.1 forbidden;
  here = λ e. absurd (let f : true ≡ false = sym g.1 ∙ e in cc);
}
