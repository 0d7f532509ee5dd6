-- The range of the numbers that files and queries hold.
use Rattle.std.specs.Prelude.{ℤ, pos, negsuc, int_le, Bool, ◌&&◌}

-- whether a number is from -2^63 to 2^63 - 1
abbrev pub fits_64_bits : ℤ → Bool
fits_64_bits z = int_le (negsuc 9223372036854775807) z && int_le z (pos 9223372036854775807)
