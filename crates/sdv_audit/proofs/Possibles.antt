-- Each answer of a card is one that some card gives.
use Rattle.std.proofs.Common.{◌≡◌, ℕ, ◌<◌, ◌==◌, ◌||◌, refl, ap, subst, sym, ◌∙◌, Bool, true, false, not, List, Option, Some, None, inl, inr, eq-eqb, ◌/◌, arith}
use Rattle.std.proofs.lemmas.Bool.{ne_eqb}
use Rattle.sdv_frames.specs.Bits.{Bits, bits_of}
use Rattle.sdv_frames.specs.declared.reply.Reply.{Reply}
use Rattle.sdv_frames.specs.declared.reply.Reply.TheVariants.{R2, R3, R6, R7}
use Rattle.sdv_registers.specs.declared.kind.Kind.{Kind}
use Rattle.sdv_registers.specs.Csd.{csd_structure, read_bl_len, c_size, c_size_mult_of, layout, fault}
use Rattle.sdv_registers.specs.Ocr.{voltage_windows}
use Rattle.sdv_registers.specs.Status.{rca as published_rca}
use Rattle.sdv_card.specs.declared.answer.Answer.TheVariants.{Reply as Replied}
use Rattle.sdv_card.specs.declared.command.Order.{Order}
use Rattle.sdv_card.specs.declared.command.Order.TheVariants.{SendIfCond, SendOpCond, SdSendOpCond, SendRelativeAddress, SendCsd}
use Rattle.sdv_card.specs.declared.command.Row.TheVariants.{Cmd3Sd}
use Rattle.sdv_card.specs.Takes.{matches, taken_as_of}
use Rattle.sdv_card.specs.Card.{Card}
use Rattle.sdv_card.specs.Settled.{Settled}
use Rattle.sdv_card.specs.Exchange.{Exchanges, SettledAnswer}
use Rattle.sdv_card.specs.Agrees.{AddressAgrees}
use Rattle.sdv_card.specs.ResponseStatus.{in_doubt}
use Rattle.sdv_audit.specs.Possible.{same_mult, same_capacity, agrees, is_possible_csd, is_possible_reply}

-- a card's CSD, which tells a capacity, and is the one that the host knows
pub record ReadableCsd (k : Kind) (known : Option (List ℕ)) (csd : List ℕ) : Type 0 where
  pub readable : fault k (bits_of csd) ≡ None
  pub same : (bytes : List ℕ) → known ≡ Some bytes → bytes ≡ csd

mult_itself : (o : Option ℕ) → same_mult o o ≡ true
mult_itself None = refl
mult_itself (Some n) = eq-eqb n n refl

capacity_itself : (k : Kind) (csd : Bits) → same_capacity k csd csd ≡ true
capacity_itself k csd =
    rw (
      eq-eqb (csd_structure csd) (csd_structure csd) refl,
      eq-eqb (read_bl_len csd) (read_bl_len csd) refl,
      eq-eqb (c_size (layout k csd) csd) (c_size (layout k csd) csd) refl,
    )
    (mult_itself (c_size_mult_of (layout k csd) csd))

csd_itself : (k : Kind) (known : Option (List ℕ)) (csd : List ℕ) → ReadableCsd k known csd → agrees k known (bits_of csd) ≡ true
csd_itself k None csd r = refl
csd_itself k (Some bytes) csd r =
    subst (λ v. agrees k (Some v) (bits_of csd) ≡ true) (sym (r.same bytes refl)) (rw r.readable (capacity_itself k (bits_of csd)))

csd_possible : (k : Kind) (known : Option (List ℕ)) (csd bytes : List ℕ) → ReadableCsd k known csd → bytes ≡ csd → is_possible_csd k known bytes ≡ true
csd_possible k known csd bytes r e =
    subst (λ v. is_possible_csd k known v ≡ true) (sym e) (rw (r.readable, csd_itself k known csd r) refl)

-- an address that was published is not 0
not_zero : (n m : ℕ) → 0 < n → Some n ≡ Some m → not (m == 0) ≡ true
not_zero n m some e =
    let same : n ≡ m = cc in
    rw (ne_eqb m 0 (λ z. let w : n ≡ 0 = same ∙ z in omega (arith, some, w))) refl

or_true : (a b : Bool) → b ≡ true → (a || b) ≡ true
or_true true b e = refl
or_true false b e = e

true_or : (a b : Bool) → a ≡ true → (a || b) ≡ true
true_or true b e = refl
true_or false b e = absurd (let f : false ≡ true = e in cc)

address_possible : (argument word : ℕ) (t u : Card) → AddressAgrees Cmd3Sd argument t word u → (in_doubt (R6 word) || not (published_rca word == 0)) ≡ true
address_possible argument word t u a = elim a.card [
  | inl p ↦
      let new : (n : ℕ) × (Some n ≡ u.rca) × (0 < n) × (n < 65536) = p.card.rca in
      or_true (in_doubt (R6 word)) (not (published_rca word == 0)) (not_zero new.0 (published_rca word) new.2 (new.1 ∙ sym p.rca))
  | inr s ↦ true_or (in_doubt (R6 word)) (not (published_rca word == 0)) s.0
]

by_way : (k : Kind) (known : Option (List ℕ)) (order : Order) (app matched : Bool) (argument : ℕ) (t u : Card) (reply : Reply) → ReadableCsd k known t.csd →
    SettledAnswer (taken_as_of order app matched) order argument t (Replied reply) u → is_possible_reply k known order reply ≡ true
by_way k known SendIfCond true matched argument t u (R7 word) r a = absurd a
by_way k known SendIfCond false matched argument t u (R7 word) r a = eq-eqb _ 0x1aa a.shown.echo
by_way k known SendOpCond true matched argument t u (R3 word) r a = absurd a
by_way k known SendOpCond false matched argument t u (R3 word) r a = eq-eqb (voltage_windows word) 511 a.windows
by_way k known (SdSendOpCond high) true matched argument t u (R3 word) r a = eq-eqb (voltage_windows word) 511 a.windows
by_way k known (SdSendOpCond high) false matched argument t u (R3 word) r a = absurd a
by_way k known SendRelativeAddress true matched argument t u (R6 word) r a = absurd a
by_way k known SendRelativeAddress false matched argument t u (R6 word) r a = address_possible argument word t u a
by_way k known SendCsd true matched argument t u (R2 bytes) r a = absurd a
by_way k known SendCsd false true argument t u (R2 bytes) r a = csd_possible k known t.csd bytes r a.shown
by_way k known SendCsd false false argument t u (R2 bytes) r a = absurd (cc)
by_way k known order app matched argument t u reply r a = refl

settled_csd : (c t : Card) → Settled c t → c.csd ≡ t.csd
settled_csd c t (inl e) = ap (λ v. v.csd) e
settled_csd c t (inr s) = ap (λ v. v.csd) s.2

pub reply_possible : (k : Kind) (known : Option (List ℕ)) (order : Order) (argument : ℕ) (c u : Card) (reply : Reply) → ReadableCsd k known c.csd →
    Exchanges order argument c (Replied reply) u → is_possible_reply k known order reply ≡ true
reply_possible k known order argument c u reply r x =
    by_way k known order x.settled_card.app (matches x.settled_card.rca (argument / 65536)) argument x.settled_card u reply
    (subst (λ v. ReadableCsd k known v) (settled_csd c x.settled_card x.settled) r) x.answered
