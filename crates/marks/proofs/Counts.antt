-- HOW MANY CYCLES ARE STORED: one of one turn, six of six, eight of eight. Assumes nothing.
use mathlib.Core.Path.{◌≡◌, refl}
use lib.Ieee.{of_int, of_bits, lt}
use Rattle.exact.specs.Binary32.{bits, one₃₂}
use Rattle.marks.specs.Marks.{count_of, stored, cycles_from, cycles_of}

pub one_cycle : (stored (cycles_of one₃₂)).count ≡ 1
unfolding stored count_of cycles_of cycles_from of_int of_bits lt
one_cycle = refl

pub six_cycles : (stored (cycles_of (bits 0x40c0_0000))).count ≡ 6
unfolding stored count_of cycles_of cycles_from of_int of_bits lt
six_cycles = refl

pub eight_cycles : (stored (cycles_of (bits 0x4100_0000))).count ≡ 8
unfolding stored count_of cycles_of cycles_from of_int of_bits lt
eight_cycles = refl
