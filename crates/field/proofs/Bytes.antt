-- The bytes are such a field. Its laws are `bytes.mul_comm` and so on; `field256` is the same as a field in the sense of
-- `algebra`, so that a theorem there is read of numbers below 256 through `Fin 256`. Assumes nothing.
use Rattle.std.specs.Prelude.{refl}
use Rattle.std.proofs.Common.{◌∙◌, mod-eq_of_lt, lit<}
use Prim.Native.Nat.{Fin}
use Rattle.std.specs.Int.Bits.{bit_xor, xor_self, xor_zero_r}
use Rattle.std.proofs.lemmas.Nat.{xor_comm}
use Rattle.algebra.specs.Ring.{Ring}
use Rattle.algebra.specs.Field.{Field}
use Rattle.bits.specs.Xor.{xor_byte, xor_assoc}
use Rattle.field.specs.Field.{mul_of, inverse_of, g, power_of}
use Rattle.field.specs.ByteField.{ByteField}
use Rattle.field.proofs.Product.{product_lt, product_comm, product_assoc, product_one, product_zero_left, product_add}
use Rattle.field.proofs.Power.{power_lt, power_add, power_mod, power_every}
use Rattle.field.proofs.InverseLaws.{mul_inverse, inverse_lt, no_divisors}
use Rattle.field.proofs.Order.{power_nonzero, power_distinct}

pub bytes : ByteField bit_xor mul_of inverse_of g power_of
unfolding power_of mul_of
bytes =
    record {
      add_byte = xor_byte;
      mul_byte = product_lt;
      inverse_byte = inverse_lt;
      power_byte = power_lt;
      add_assoc = xor_assoc;
      add_comm = xor_comm;
      add_zero = xor_zero_r;
      add_self = xor_self;
      mul_assoc = product_assoc;
      mul_comm = product_comm;
      mul_one = λ a h. product_one a ∙ mod-eq_of_lt h;
      mul_zero = λ a. product_comm a 0 ∙ product_zero_left a;
      mul_add = product_add;
      mul_inverse = mul_inverse;
      no_divisors = no_divisors;
      power_zero = refl;
      power_one = refl;
      power_add = power_add;
      power_mod = power_mod;
      power_nonzero = power_nonzero;
      power_distinct = power_distinct;
      power_every = power_every;
    }

abbrev pub ring256 : Ring (Fin 256)
ring256 =
    record {
      add = λ a b. (bit_xor a.0 b.0, bytes.add_byte a.0 b.0 a.1 b.1);
      mul = λ a b. (mul_of a.0 b.0, bytes.mul_byte a.0 b.0);
      O = (0, lit< tt);
      I = (1, lit< tt);
      add_comm = λ a b. native.Mathlib.Fin.val_path (bytes.add_comm a.0 b.0);
      add_assoc = λ a b c. native.Mathlib.Fin.val_path (bytes.add_assoc a.0 b.0 c.0);
      add_zero = λ a. native.Mathlib.Fin.val_path (bytes.add_zero a.0);
      add_self = λ a. native.Mathlib.Fin.val_path (bytes.add_self a.0);
      mul_comm = λ a b. native.Mathlib.Fin.val_path (bytes.mul_comm a.0 b.0);
      mul_assoc = λ a b c. native.Mathlib.Fin.val_path (bytes.mul_assoc a.0 b.0 c.0);
      mul_one = λ a. native.Mathlib.Fin.val_path (bytes.mul_one a.0 a.1);
      mul_add = λ a b c. native.Mathlib.Fin.val_path (bytes.mul_add a.0 b.0 c.0);
    }

abbrev pub field256 : Field (Fin 256)
field256 =
    record {
      base = ring256;
      inv = λ a. (inverse_of a.0, bytes.inverse_byte a.0);
      mul_inv = λ a n. native.Mathlib.Fin.val_path (bytes.mul_inverse a.0 (λ e. n (native.Mathlib.Fin.val_path e)) a.1);
    }
