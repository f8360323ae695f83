-- What a text is answered in edition 2, as bytes.
use Rattle.std.specs.Prelude.{ℕ, cond, List}
use Rattle.text.specs.Put.{if_fits}
use Rattle.plan.specs.Answer.{is_granted}
use Rattle.plan.specs.Convert.{renewed_of}
use Rattle.plan.specs.Write.{text_of}
use Rattle.log_write.specs.Lines.{refused_line}

-- the edition 2 text, or one `refused` line
unfoldable pub renewed_text : List ℕ → List ℕ
renewed_text s = cond (is_granted (renewed_of s).answer) (text_of (renewed_of s).plan) (refused_line (renewed_of s).answer)

-- no text is longer
abbrev pub text_most : ℕ
text_most = 32768

-- nothing where a buffer of so many bytes may be too short
abbrev pub renewed_in : ℕ → List ℕ → List ℕ
renewed_in room s = if_fits text_most room (renewed_text s)
