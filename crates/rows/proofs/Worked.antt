-- The worked rows, by computing the definitions.
use Rattle.std.proofs.Common.{refl}
use lib.Utf8.{encode, encodes}
use Rattle.std.specs.Fmt.{digits}
use Rattle.std.specs.Str.{chars}
use Rattle.texts.specs.Texts.{utf8, front, trim}
use Rattle.key_names.specs.KeyTable.{keys, plain_keys, named_chars}
use Rattle.modifier_names.specs.Words.{words, word_bits}
use Rattle.rows.specs.Rows.{Rows}

pub worked : Rows
unfolding digits chars encode encodes utf8 front trim keys plain_keys named_chars words word_bits
worked = record {
  f5 = (refl, refl);
  f6 = (refl, refl);
  up_shift = (refl, refl);
  escape_plain = (refl, refl);
  escape_apart = (refl, refl);
  a_all_keys = (refl, refl);
  alt_ctrl_a = (refl, refl);
  delete = (refl, refl);
  backspace = (refl, refl);
  enter_release = (refl, refl);
  enter_release_all = (refl, refl);
  five_caps = (refl, refl);
  five_num_lock = (refl, refl);
  ctrl_shift_a = (refl, refl);
  name_f = refl;
  name_f24 = refl;
  name_f0 = refl;
  name_f25 = refl;
  name_f_plus_7 = refl;
  list_shift_ctrl = refl;
}
