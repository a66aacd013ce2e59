-- Where the partitions of a described card stand in its image: first the blocks of the user area, then those of the
-- first boot partition, then those of the second. The layout is this project's own.
use Rattle.std.specs.Prelude.{ℕ, ◌+◌, ◌*◌, List, take, drop}
use Rattle.sdv_card.specs.declared.state.Partition.{Partition}
use Rattle.sdv_card.specs.declared.state.Partition.TheVariants.{User, Boot1, Boot2}
use Rattle.sdv_card.specs.Card.{Block, Partitions, capacity_of}
use Rattle.sdv_behavior.specs.declared.card_desc.CardDesc.{CardDesc}

-- how many blocks each boot partition has: BOOT_SIZE_MULT counts 128 KiB
abbrev pub boot_capacity : CardDesc → ℕ
boot_capacity d = 256 * d.boot_size_mult

-- how many blocks a partition has
abbrev pub partition_size : CardDesc → Partition → ℕ
partition_size d partition = capacity_of partition d.capacity (boot_capacity d)

-- the place of its first block in the image
abbrev pub partition_place : CardDesc → Partition → ℕ
partition_place d User = 0
partition_place d Boot1 = d.capacity
partition_place d Boot2 = d.capacity + boot_capacity d

-- how many blocks the image has
abbrev pub image_size : CardDesc → ℕ
image_size d = d.capacity + 2 * boot_capacity d

-- what a card holds whose image has these blocks
abbrev pub contents_of : CardDesc → List Block → Partitions
contents_of d blocks =
    record {
      user = take d.capacity blocks;
      boot_1 = take (boot_capacity d) (drop d.capacity blocks);
      boot_2 = drop (d.capacity + boot_capacity d) blocks;
    }
