-- Worked rows: the lines that tell what is wrong with options.
use Rattle.std.specs.Prelude.{◌≡◌, codes, refl}
use Rattle.fax_text.specs.Misuse.{misuse_text, usage_line}
use Rattle.fax_text.specs.declared.words.Misuse.TheVariants as misuse

-- `-t 0`
no_tries_line : usage_line misuse.Tries ≡ codes "error: -t wants a number from 1 to 1000\n"
unfolding misuse_text
no_tries_line = refl

-- `-P 256`
past_the_priorities_line : usage_line misuse.Priority ≡ codes "error: -P wants a number from 0 to 255\n"
unfolding misuse_text
past_the_priorities_line = refl

-- `--pages 0`
no_pages_line : usage_line misuse.Pages ≡ codes "error: --pages wants a number from 1 to 9999\n"
unfolding misuse_text
no_pages_line = refl
