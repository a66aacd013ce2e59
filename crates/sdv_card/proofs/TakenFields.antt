-- A card that took a row, or stayed, is seen among the fields that the rules of each part give.
use Rattle.std.proofs.Common.{◌≡◌, ℕ, ◌⊎◌, inl, inr, refl, ap, subst, sym, ◌∙◌, Bool, true, false, List, [], ◌∷◌, ◌==◌, Option}
use Rattle.sdv_registers.specs.declared.kind.Kind.{Kind}
use Rattle.sdv_card.specs.declared.state.EraseStage.{EraseStage}
use Rattle.sdv_card.specs.declared.state.Mode.{Mode}
use Rattle.sdv_card.specs.declared.fields.Fields.{Fields}
use Rattle.sdv_card.specs.declared.command.Row.{Row}
use Rattle.sdv_card.specs.declared.command.Row.TheVariants.{Cmd0, Cmd13, Cmd16, Acmd13}
use Rattle.sdv_card.specs.declared.command.Response.{Response}
use Rattle.sdv_card.specs.declared.command.Response.TheVariants.{CardStatus, NewAddress}
use Rattle.sdv_card.specs.Lists.{May}
use Rattle.sdv_card.specs.StateTable.{◌to◌, rows}
use Rattle.sdv_card.specs.RowRules.{may_reach, erase_after, erase_stayed, mode_stayed, preset_after, preset_kept, length_after, matched_after, transfer_after}
use Rattle.sdv_card.specs.Takes.{matches}
use Rattle.sdv_card.specs.Card.{Card}
use Rattle.sdv_card.specs.Host.{Host}
use Rattle.sdv_card.specs.Taken.{Taken, Stayed, LengthAfter}
use Rattle.sdv_card.specs.Exchange.{Lost, LostStayed}
use Rattle.sdv_card.specs.Shapes.{view}
use Rattle.sdv_card.specs.Outcomes.{taken, stayed, lost, lost_stayed, with_presets, with_erases}
use Rattle.sdv_card.proofs.Digits.{same_fields}
use Rattle.sdv_card.proofs.Members.{only, here, there, May-append_left, May-append_right, May-map, May-each, May-either, May-filter, May-targets}

length_law : (row : Row) (unit : Bool) (before after : ℕ) → LengthAfter row unit before after →
    May (length_after row unit (before == 512)) (after == 512)
length_law Cmd0 true before after e = here (sym (ap (λ n. n == 512) e))
length_law Cmd0 false before after e = May-either (after == 512)
length_law Cmd16 unit before after e = here (sym (ap (λ n. n == 512) e))
length_law row unit before after e = here (ap (λ n. n == 512) e)

-- hosts that differ in what they know of a card alone
pub record SameHost (h h' : Host) : Type 0 where
  pub lines : h.lines ≡ h'.lines
  pub flags : h.flags ≡ h'.flags

pub taken_law : (k : Kind) (row : Row) (heard : Bool) (argument : ℕ) (h h' : Host) (t u : Card) →
    k ≡ t.kind → Taken row heard argument t u → SameHost h h' →
    May (matched_after row heard (matches t.rca h.rca)) (matches u.rca h'.rca) →
    May (taken k row heard (view t h)) (view u h')
taken_law k row heard argument h h' t u kind m host matched =
    let after : Fields = record (view t h) {
      transfer = transfer_after row t.preset t.transfer;
      erase = erase_after row t.erase;
      state = u.state;
      app = u.app;
      length_512 = u.block_length == 512;
      mode = u.mode;
      matched = matches u.rca h'.rca;
    } in
    May-each _ u.state
    (May-filter (may_reach row t.block_unit) (May-targets (subst (λ v. May (rows v row) (t.state to u.state)) (sym kind) m.state)) m.reached)
    (May-each _ u.app m.app
    (May-each _ (u.block_length == 512) (length_law row _ _ _ m.block_length)
    (May-each _ u.mode m.mode
    (May-each _ (matches u.rca h'.rca) matched
    (subst (λ v. May (with_presets after (preset_after k row t.preset)) v)
    (same_fields refl m.transfer m.erase m.same.block_unit refl refl refl refl host.lines host.flags refl)
    (May-map (λ preset. record after { preset = preset }) (subst (λ v. May (preset_after v row t.preset) u.preset) (sym kind) m.preset)))))))

-- a card that stayed is seen among all with some erase stages, modes and matches
erases_law : (k : Kind) (row : Row) (heard : Bool) (es : List EraseStage) (modes : List Mode) (ms : List Bool) (h h' : Host) (t u : Card) →
    k ≡ t.kind → Stayed row heard t u → SameHost h h' → May es u.erase → May modes u.mode → May ms (matches u.rca h'.rca) →
    May (with_erases (record (view t h) { app = false }) es modes ms (preset_kept k t.preset)) (view u h')
erases_law k row heard es modes ms h h' t u kind m host erase mode matched =
    let after : Fields = record (view t h) { app = false; erase = u.erase; mode = u.mode; matched = matches u.rca h'.rca } in
    May-each _ u.erase erase
    (May-each _ u.mode mode
    (May-each _ (matches u.rca h'.rca) matched
    (subst (λ v. May (with_presets after (preset_kept k t.preset)) v)
    (same_fields m.state m.transfer refl m.same.block_unit (ap (λ n. n == 512) m.block_length) m.app refl refl host.lines host.flags refl)
    (May-map (λ preset. record after { preset = preset }) (subst (λ v. May (preset_kept v t.preset) u.preset) (sym kind) m.preset)))))

-- a card that stayed at another command than CMD13
pub stayed_law : (k : Kind) (row : Row) (heard : Bool) (ms : List Bool) (h h' : Host) (t u : Card) → (Cmd13 ≡ row → ⊥) →
    k ≡ t.kind → Stayed row heard t u → SameHost h h' → May ms (matches u.rca h'.rca) →
    May (stayed k row heard ms (view t h)) (view u h')
stayed_law k Cmd13 heard ms h h' t u other kind m host matched = absurd (other refl)
stayed_law k row heard ms h h' t u other kind m host matched =
    erases_law k row heard (erase_stayed row t.erase) (mode_stayed row heard t.state t.mode) ms h h' t u kind m host m.erase m.mode matched

-- what a legal row says of a card: one that takes CMD13 keeps its state, and one that takes ACMD13 has no switch error
abbrev pub Allowed : Row → Card → Type 0
Allowed Cmd13 t = May (rows t.kind Cmd13) (t.state to t.state)
Allowed Acmd13 t = t.mode.error ≡ false
Allowed row t = Unit {0}

-- a card that stayed at CMD13 is as one that took it
pub stayed_status : (heard : Bool) (argument : ℕ) (t u : Card) → Allowed Cmd13 t → Stayed Cmd13 heard t u → Taken Cmd13 heard argument t u
stayed_status heard argument t u allowed m = record {
  same = m.same;
  state = subst (λ s. May (rows t.kind Cmd13) (t.state to s)) m.state allowed;
  reached = refl;
  app = here m.app;
  erase = only m.erase;
  block_length = m.block_length;
  preset = m.preset;
  rca = m.rca;
  transfer = m.transfer;
  mode = m.mode;
  switched = refl;
  blocks = m.blocks;
  contents = m.contents;
}

-- a card that stayed is among those that stayed, or among those that took the row
pub stayed_cases : (k : Kind) (row : Row) (heard : Bool) (argument : ℕ) (h h' : Host) (t u : Card) → k ≡ t.kind → Allowed row t → Stayed row heard t u →
    SameHost h h' → matches t.rca h.rca ≡ matches u.rca h'.rca →
    May (taken k row heard (view t h)) (view u h') ⊎ May (stayed k row heard (matches t.rca h.rca ∷ []) (view t h)) (view u h')
stayed_cases k Cmd13 heard argument h h' t u kind allowed m host matched =
    inl (taken_law k Cmd13 heard argument h h' t u kind (stayed_status heard argument t u allowed m) host (here matched))
stayed_cases k row heard argument h h' t u kind allowed m host matched =
    inr (stayed_law k row heard (matches t.rca h.rca ∷ []) h h' t u (λ e. cc) kind m host (here matched))

pub same_match : (a b : Option ℕ) (m n : ℕ) → a ≡ b → m ≡ n → matches a m ≡ matches b n
same_match a b m n e f = cc

pub same_view : (h h' : Host) (t : Card) → SameHost h h' → matches t.rca h.rca ≡ matches t.rca h'.rca → view t h ≡ view t h'
same_view h h' t e f = same_fields refl refl refl refl refl refl f refl e.lines e.flags refl

-- a card that stayed has the address that it had
pub stayed_match : (row : Row) (heard : Bool) (h h' : Host) (t u : Card) → Stayed row heard t u → matches t.rca h.rca ≡ matches t.rca h'.rca →
    matches t.rca h.rca ≡ matches u.rca h'.rca
stayed_match row heard h h' t u m same = same ∙ ap (λ v. matches v h'.rca) m.rca

lost_stayed_law : (response : Response) (k : Kind) (row : Row) (argument : ℕ) (h h' : Host) (t u : Card) → k ≡ t.kind → Allowed row t → SameHost h h' →
    matches t.rca h.rca ≡ matches t.rca h'.rca → LostStayed response row t u →
    May (taken k row false (view t h)) (view u h') ⊎ May (lost_stayed k response row (view t h)) (view u h')
lost_stayed_law CardStatus k row argument h h' t u kind allowed host same m =
    stayed_cases k row false argument h h' t u kind allowed m.card host (stayed_match row false h h' t u m.card same)
lost_stayed_law NewAddress k row argument h h' t u kind allowed host same m =
    stayed_cases k row false argument h h' t u kind allowed m.card host (stayed_match row false h h' t u m.card same)
lost_stayed_law response k row argument h h' t u kind allowed host same m = absurd m

-- without a response the card is as it was, or took the row, or stayed
pub lost_law : (response : Response) (k : Kind) (row : Row) (argument : ℕ) (h h' : Host) (t u : Card) → k ≡ t.kind → Allowed row t → SameHost h h' →
    matches t.rca h.rca ≡ matches t.rca h'.rca →
    (Taken row false argument t u → May (matched_after row false (matches t.rca h.rca)) (matches u.rca h'.rca)) →
    Lost response row argument t u → May (lost k response row (view t h)) (view u h')
lost_law response k row argument h h' t u kind allowed host same matched (inl e) =
    here (subst (λ v. view t h ≡ view v h') e (same_view h h' t host same))
lost_law response k row argument h h' t u kind allowed host same matched (inr (inl m)) =
    there (May-append_left _ (taken_law k row false argument h h' t u kind m.card host (matched m.card)))
lost_law response k row argument h h' t u kind allowed host same matched (inr (inr m)) =
    elim (lost_stayed_law response k row argument h h' t u kind allowed host same m) [
      | inl n ↦ there (May-append_left _ n)
      | inr n ↦ there (May-append_right (taken k row false (view t h)) n)
    ]
