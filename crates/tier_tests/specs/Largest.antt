-- The sizes of the largest map.
use Rattle.tier_map.specs.Contents.{Sizes}

abbrev pub largest : Sizes
largest = record { pages = 31000497; fulls = 65536; minis = 65536; frames = 65535 }
