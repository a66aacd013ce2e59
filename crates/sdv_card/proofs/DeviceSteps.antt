-- The example of e.MMC: a device is brought up, and its EXT_CSD is read.
use Rattle.std.proofs.Common.{◌≡◌, inl, refl, true, false, IsTrue, ℕ, List, [], ◌∷◌, ◌++◌, replicate, Option, Some, None, lit<, lit≤}
use Rattle.std.proofs.lemmas.List.Elements.{All-append, All-replicate}
use Rattle.sdv_registers.specs.declared.kind.Kind.TheVariants.{Emmc}
use Rattle.sdv_frames.specs.Bits.{bits, bits_of, number_of}
use Rattle.sdv_frames.specs.declared.reply.Reply.TheVariants.{R1, R2, R3}
use Rattle.sdv_card.specs.declared.state.State.{State}
use Rattle.sdv_card.specs.declared.state.State.TheVariants.{Idle, Ready, Ident, Stby, Tran, Data}
use Rattle.sdv_card.specs.declared.state.Transfer.{Transfer}
use Rattle.sdv_card.specs.declared.state.Transfer.TheVariants.{Nothing, ExtCsdDue}
use Rattle.sdv_card.specs.declared.state.EraseStage.TheVariants.{Outside}
use Rattle.sdv_card.specs.declared.state.Partition.TheVariants.{User, Boot1, Boot2}
use Rattle.sdv_card.specs.declared.event.Aim.TheVariants.{Rca, Plain}
use Rattle.sdv_card.specs.declared.command.Order.TheVariants.{GoIdleState, SendOpCond, AllSendCid, SetRelativeAddress, SendCsd, SelectCard, SetBlockLength, SendExtCsd}
use Rattle.sdv_card.specs.declared.command.Row.{Row}
use Rattle.sdv_card.specs.declared.command.Row.TheVariants.{Cmd0, Cmd1, Cmd2, Cmd3Emmc, Cmd7Addressed, Cmd8Emmc, Cmd9, Cmd16}
use Rattle.sdv_card.specs.declared.answer.Answer.TheVariants.{Sent, Reply as Replied}
use Rattle.sdv_card.specs.Lists.{May}
use Rattle.sdv_card.specs.StateTable.{rows, ◌to◌}
use Rattle.sdv_card.specs.RowRules.{may_reach, app_after, erase_after, preset_after, mode_after, may_switch, transfer_after}
use Rattle.sdv_card.specs.Modes.{first_mode}
use Rattle.sdv_card.specs.CommandTable.{order_of}
use Rattle.sdv_card.specs.Card.{Card, IsRegister, AreBlocks, ContentsFit, IsByte, Block, Partitions}
use Rattle.sdv_card.specs.Phases.{◌with◌}
use Rattle.sdv_card.specs.Taken.{Taken, RcaAfter, LengthAfter, BlocksAfter, ContentsAfter}
use Rattle.sdv_card.specs.Host.{Host}
use Rattle.sdv_card.specs.Profile.{IsAtStart, IsOfProfile, host_at_start}
use Rattle.sdv_card.specs.BringUp.{Happens, command}
use Rattle.sdv_card.specs.EmmcBringUp.{device_csd, device_cid, device_ext_csd, example_device, read_ext_csd, DeviceBringUpHappens, boot_ext_csd, boot_device}
use Rattle.sdv_card.proofs.Steps.{happens, first, made, bytes_fit, no_boot_blocks}
use Rattle.sdv_card.proofs.ExampleAnswers.{no_error, no_blocks}

-- THE DEVICE AND THE HOST between the commands

-- the device in a state, with a relative address and a transfer
abbrev device : List Block → State → Option ℕ → Transfer → Card
device contents state rca transfer = record (example_device contents) { state = state; rca = rca; transfer = transfer }

-- the host with a relative address and a CSD
abbrev host : ℕ → Option (List ℕ) → Host
host rca csd = record (host_at_start 0) { rca = rca; csd = csd }

-- a row that changes state, address and transfer alone
taken : (row : Row) (argument : ℕ) (contents : List Block) (s s' : State) (r r' : Option ℕ) (x : Transfer) →
    May (rows Emmc row) (s to s') → IsTrue (may_reach row true s') → May (app_after row) false → RcaAfter row r r' →
    erase_after row Outside ≡ Outside → LengthAfter row true 512 512 → May (preset_after Emmc row 0) 0 → transfer_after row 0 Nothing ≡ x →
    May (mode_after row true s first_mode) first_mode → IsTrue (may_switch row 0 false) →
    BlocksAfter row argument (device contents s r Nothing) (device contents s' r' x) →
    ContentsAfter row (device contents s r Nothing) (device contents s' r' x) →
    Taken row true argument (device contents s r Nothing) (device contents s' r' x)
taken row argument contents s s' r r' x state reached app rca erase length preset transfer mode switched blocks same = record {
  same = record {
    kind = refl;
    version = refl;
    block_unit = refl;
    capacity = refl;
    boot_capacity = refl;
    csd = refl;
    cid = refl;
    ext_csd = refl;
    scr = refl;
    sd_status = refl;
  };
  state = state;
  reached = reached;
  app = app;
  erase = erase;
  block_length = length;
  preset = preset;
  rca = rca;
  transfer = transfer;
  mode = mode;
  switched = switched;
  blocks = blocks;
  contents = same;
}

-- EACH EVENT

reset : (cs : List Block) → Happens (command 0 Plain 0 Sent) (device cs Idle None Nothing) (host 0 None) (device cs Idle None Nothing)
unfolding order_of
reset cs =
    let both = happens _ 0 GoIdleState Sent (device cs Idle None Nothing) (device cs Idle None Nothing) (host 0 None) refl refl (made refl)
    (record { target = Idle; has_row = first; length = refl; erase = refl; preset = refl })
    (record {
      card = taken Cmd0 0 cs Idle Idle None None Nothing first refl first refl refl refl first refl first refl
          (no_blocks _ _ refl refl) refl;
      error = refl;
    }) in
    record { made = made refl; legal = both.0; bounds = tt; step = both.1 }

conditions : (cs : List Block) →
    Happens (command 1 Plain 0x40ff8080 (Replied (R3 0xc0ff8080))) (device cs Idle None Nothing) (host 0 None) (device cs Ready None Nothing)
unfolding order_of bits number_of
conditions cs =
    let both = happens _ 0x40ff8080 SendOpCond (Replied (R3 0xc0ff8080)) (device cs Idle None Nothing) (device cs Ready None Nothing) (host 0 None) refl refl
    (made refl)
    (record { target = Ready; has_row = first; length = refl; erase = refl; preset = refl })
    (record {
      is_word = lit< tt;
      windows = refl;
      ready = refl;
      unit = λ r. refl;
      card = taken Cmd1 0x40ff8080 cs Idle Ready None None Nothing first refl first refl refl refl first refl first refl (no_blocks _ _ refl refl) refl;
      error = refl;
    }) in
    record { made = made refl; legal = both.0; bounds = tt; step = both.1 }

identification : (cs : List Block) →
    Happens (command 2 Plain 0 (Replied (R2 device_cid))) (device cs Ready None Nothing) (host 0 None) (device cs Ident None Nothing)
unfolding order_of
identification cs =
    let both = happens _ 0 AllSendCid (Replied (R2 device_cid)) (device cs Ready None Nothing) (device cs Ident None Nothing) (host 0 None) refl refl
    (made refl)
    (record { target = Ident; has_row = first; length = refl; erase = refl; preset = refl })
    (record {
      shown = refl;
      error = refl;
      card = taken Cmd2 0 cs Ready Ident None None Nothing first refl first refl refl refl first refl first refl (no_blocks _ _ refl refl) refl;
    }) in
    record { made = made refl; legal = both.0; bounds = tt; step = both.1 }

address : (cs : List Block) →
    Happens (command 3 Plain 0x00010000 (Replied (R1 3 0x500))) (device cs Ident None Nothing) (host 0 None) (device cs Stby (Some 1) Nothing)
unfolding order_of bits number_of
address cs =
    let both = happens _ 0x00010000 SetRelativeAddress (Replied (R1 3 0x500)) (device cs Ident None Nothing) (device cs Stby (Some 1) Nothing)
    (host 0 None) refl refl (made refl)
    (record { target = Stby; has_row = first; length = refl; erase = refl; preset = refl })
    (record {
      is_word = lit< tt;
      same_index = refl;
      state = refl;
      app = tt;
      switch = tt;
      error = no_error _ _ _ refl refl;
      card = inl (taken Cmd3Emmc 0x00010000 cs Ident Stby None (Some 1) Nothing first refl first refl refl refl first refl first refl
          (no_blocks _ _ refl refl) refl);
    }) in
    record { made = made refl; legal = both.0; bounds = tt; step = both.1 }

specific_data : (cs : List Block) →
    Happens (command 9 Rca 0x00010000 (Replied (R2 device_csd))) (device cs Stby (Some 1) Nothing) (host 1 None) (device cs Stby (Some 1) Nothing)
unfolding order_of
specific_data cs =
    let both = happens _ 0x00010000 SendCsd (Replied (R2 device_csd)) (device cs Stby (Some 1) Nothing) (device cs Stby (Some 1) Nothing)
    (host 1 None) refl refl (made refl)
    (record { target = Stby; has_row = first; length = refl; erase = refl; preset = refl })
    (record {
      shown = refl;
      error = refl;
      card = taken Cmd9 0x00010000 cs Stby Stby (Some 1) (Some 1) Nothing first refl first refl refl refl first refl first refl (no_blocks _ _ refl refl) refl;
    }) in
    record { made = made refl; legal = both.0; bounds = tt; step = both.1 }

selection : (cs : List Block) →
    Happens (command 7 Rca 0x00010000 (Replied (R1 7 0x700))) (device cs Stby (Some 1) Nothing) (host 1 (Some device_csd)) (device cs Tran (Some 1) Nothing)
unfolding order_of bits number_of
selection cs =
    let both = happens _ 0x00010000 SelectCard (Replied (R1 7 0x700)) (device cs Stby (Some 1) Nothing) (device cs Tran (Some 1) Nothing)
    (host 1 (Some device_csd)) refl refl (made refl)
    (record { target = Tran; has_row = first; length = refl; erase = refl; preset = refl })
    (record {
      is_word = lit< tt;
      same_index = refl;
      state = refl;
      app = tt;
      switch = tt;
      error = no_error _ _ _ refl refl;
      card = inl (taken Cmd7Addressed 0x00010000 cs Stby Tran (Some 1) (Some 1) Nothing first refl first refl refl refl first refl first refl
          (no_blocks _ _ refl refl) refl);
    }) in
    record { made = made refl; legal = both.0; bounds = tt; step = both.1 }

block_length : (cs : List Block) →
    Happens (command 16 Plain 512 (Replied (R1 16 0x900))) (device cs Tran (Some 1) Nothing) (host 1 (Some device_csd)) (device cs Tran (Some 1) Nothing)
unfolding order_of bits number_of
block_length cs =
    let both = happens _ 512 SetBlockLength (Replied (R1 16 0x900)) (device cs Tran (Some 1) Nothing) (device cs Tran (Some 1) Nothing)
    (host 1 (Some device_csd)) refl refl (made refl)
    (record { target = Tran; has_row = first; length = refl; erase = refl; preset = refl })
    (record {
      is_word = lit< tt;
      same_index = refl;
      state = refl;
      app = tt;
      switch = tt;
      error = no_error _ _ _ refl refl;
      card = inl (taken Cmd16 512 cs Tran Tran (Some 1) (Some 1) Nothing first refl first refl refl refl first refl first refl (no_blocks _ _ refl refl) refl);
    }) in
    record { made = made refl; legal = both.0; bounds = tt; step = both.1 }

extended_data : (cs : List Block) →
    Happens (command 8 Plain 0 (Replied (R1 8 0x900))) (device cs Tran (Some 1) Nothing) (host 1 (Some device_csd)) (device cs Data (Some 1) ExtCsdDue)
unfolding order_of bits number_of
extended_data cs =
    let both = happens _ 0 SendExtCsd (Replied (R1 8 0x900)) (device cs Tran (Some 1) Nothing) (device cs Data (Some 1) ExtCsdDue)
    (host 1 (Some device_csd)) refl refl (made refl)
    (record { target = Data; has_row = first; length = refl; erase = refl; preset = refl })
    (record {
      is_word = lit< tt;
      same_index = refl;
      state = refl;
      app = tt;
      switch = tt;
      error = no_error _ _ _ refl refl;
      card = inl (taken Cmd8Emmc 0 cs Tran Data (Some 1) (Some 1) ExtCsdDue first refl first refl refl refl first refl first refl
          (no_blocks _ _ refl refl) refl);
    }) in
    record { made = made refl; legal = both.0; bounds = tt; step = both.1 }

register_phase : (cs : List Block) →
    Happens read_ext_csd (device cs Data (Some 1) ExtCsdDue) (record (host 1 (Some device_csd)) { register_length = 512 }) (device cs Tran (Some 1) Nothing)
register_phase cs = record {
  made = record { lines_are = refl; size = refl };
  legal = refl;
  bounds = lit< tt;
  step = record { due = refl; size = refl; truth = refl; moved = record { place = Tran with Nothing; may = first; card = refl } };
}

-- THE DEVICE AT THE START

csd_fits : IsRegister 15 device_csd
csd_fits = record {
  size = refl;
  bytes_fit = bytes_fit device_csd (
    lit< tt,
    (
      lit< tt,
      (
        lit< tt,
        (
          lit< tt,
          (
            lit< tt,
            (
              lit< tt,
              (lit< tt, (lit< tt, (lit< tt, (lit< tt, (lit< tt, (lit< tt, (lit< tt, (lit< tt, (lit< tt, tt))))))))),
            ),
          ),
        ),
      ),
    ),
  );
}

cid_fits : IsRegister 15 device_cid
cid_fits = record {
  size = refl;
  bytes_fit = bytes_fit device_cid (
    lit< tt,
    (
      lit< tt,
      (
        lit< tt,
        (
          lit< tt,
          (
            lit< tt,
            (
              lit< tt,
              (lit< tt, (lit< tt, (lit< tt, (lit< tt, (lit< tt, (lit< tt, (lit< tt, (lit< tt, (lit< tt, tt))))))))),
            ),
          ),
        ),
      ),
    ),
  );
}

ext_csd_fits : IsRegister 512 device_ext_csd
ext_csd_fits = record {
  size = refl;
  bytes_fit = All-append IsByte (replicate 212 0) (0 ∷ 4 ∷ 0 ∷ 0 ∷ replicate 296 0) (All-replicate IsByte 212 0 (lit< tt))
      (All-append IsByte (0 ∷ 4 ∷ 0 ∷ 0 ∷ []) (replicate 296 0) (bytes_fit (0 ∷ 4 ∷ 0 ∷ 0 ∷ []) (lit< tt, (lit< tt, (lit< tt, (lit< tt, tt)))))
      (All-replicate IsByte 296 0 (lit< tt)));
}

start_contents : (cs : List Block) → AreBlocks 1024 cs → ContentsFit (example_device cs)
start_contents cs blocks User = blocks
start_contents cs blocks Boot1 = no_boot_blocks
start_contents cs blocks Boot2 = no_boot_blocks

at_start : (cs : List Block) → AreBlocks 1024 cs → IsAtStart (example_device cs)
unfolding bits bits_of number_of
at_start cs blocks = record {
  profile = record {
    card = record {
      csd = csd_fits;
      cid = cid_fits;
      registers = ext_csd_fits;
      address = refl;
      transfer = refl;
      kind_rules = refl;
      block_length = refl;
      preset = lit< tt;
      announced = lit< tt;
      mode = refl;
      contents = start_contents cs blocks;
    };
    version = tt;
    least = lit≤ tt;
    most = lit≤ tt;
    readable = refl;
    told = refl;
    told_boot = refl;
  };
  state = refl;
  rca = refl;
  app = refl;
  erase = refl;
  preset = refl;
  transfer = refl;
  mode = refl;
  unshown_error = refl;
}

-- A DEVICE WITH BOOT PARTITIONS

boot_ext_csd_fits : IsRegister 512 boot_ext_csd
boot_ext_csd_fits = record {
  size = refl;
  bytes_fit = All-append IsByte (replicate 212 0) (0 ∷ 4 ∷ 0 ∷ 0 ∷ (replicate 10 0 ++ (1 ∷ replicate 285 0))) (All-replicate IsByte 212 0 (lit< tt))
      (All-append IsByte (0 ∷ 4 ∷ 0 ∷ 0 ∷ []) (replicate 10 0 ++ (1 ∷ replicate 285 0))
      (bytes_fit (0 ∷ 4 ∷ 0 ∷ 0 ∷ []) (lit< tt, (lit< tt, (lit< tt, (lit< tt, tt)))))
      (All-append IsByte (replicate 10 0) (1 ∷ replicate 285 0) (All-replicate IsByte 10 0 (lit< tt))
      (All-append IsByte (1 ∷ []) (replicate 285 0) (bytes_fit (1 ∷ []) (lit< tt, tt)) (All-replicate IsByte 285 0 (lit< tt)))));
}

boot_contents : (contents : Partitions) → AreBlocks 1024 contents.user → AreBlocks 256 contents.boot_1 → AreBlocks 256 contents.boot_2 →
    ContentsFit (boot_device contents)
boot_contents contents user boot_1 boot_2 User = user
boot_contents contents user boot_1 boot_2 Boot1 = boot_1
boot_contents contents user boot_1 boot_2 Boot2 = boot_2

pub of_profile : (contents : Partitions) → AreBlocks 1024 contents.user → AreBlocks 256 contents.boot_1 → AreBlocks 256 contents.boot_2 →
    IsOfProfile (boot_device contents)
unfolding bits bits_of number_of
of_profile contents user boot_1 boot_2 = record {
  card = record {
    csd = csd_fits;
    cid = cid_fits;
    registers = boot_ext_csd_fits;
    address = (1, refl, lit< tt, lit< tt);
    transfer = refl;
    kind_rules = refl;
    block_length = refl;
    mode = refl;
    preset = lit< tt;
    announced = lit< tt;
    contents = boot_contents contents user boot_1 boot_2;
  };
  version = tt;
  least = lit≤ tt;
  most = lit≤ tt;
  readable = refl;
  told = refl;
  told_boot = refl;
}

-- THE WHOLE

pub device_bring_up_happens : DeviceBringUpHappens
unfolding order_of bits number_of
device_bring_up_happens = record {
  start = at_start;
  all = λ cs. (
    device cs Idle None Nothing,
    reset cs,
    (
      device cs Ready None Nothing,
      conditions cs,
      (
        device cs Ident None Nothing,
        identification cs,
        (
          device cs Stby (Some 1) Nothing,
          address cs,
          (
            device cs Stby (Some 1) Nothing,
            specific_data cs,
            (
              device cs Tran (Some 1) Nothing,
              selection cs,
              (
                device cs Tran (Some 1) Nothing,
                block_length cs,
                (
                  device cs Data (Some 1) ExtCsdDue,
                  extended_data cs,
                  (device cs Tran (Some 1) Nothing, register_phase cs, refl),
                ),
              ),
            ),
          ),
        ),
      ),
    ),
  );
}
