-- `masks::places` meets its contract: each list of the code is that of the definition, by computing both.
-- Assumes nothing.
use Rattle.std.proofs.Common.{refl, lit<}
use Rattle.channel.specs.Places.{d_places}
use Rattle.channel.specs.Checks.{checks}
use Rattle.masks.proofs.KeptLaws.{listed, of_speech, of_475, of_515, of_590, of_670, of_740, of-silence}
use Rattle.masks.proofs.places.Goals as goal

pub returns-in-Speech : goal.returns-in-Speech
unfolding checks d_places
returns-in-Speech c = rw c.in-Speech.is (listed 0 _ _ of_speech refl tt)

pub returns-in-Lower475Crc1 : goal.returns-in-Lower475Crc1
unfolding checks d_places
returns-in-Lower475Crc1 c = rw c.in-Lower475Crc1.is (listed 1 _ _ (of_475 0 (lit< tt)) refl tt)

pub returns-in-Lower475Crc2 : goal.returns-in-Lower475Crc2
unfolding checks d_places
returns-in-Lower475Crc2 c = rw c.in-Lower475Crc2.is (listed 2 _ _ (of_475 1 (lit< tt)) refl tt)

pub returns-in-Lower475Crc3 : goal.returns-in-Lower475Crc3
unfolding checks d_places
returns-in-Lower475Crc3 c = rw c.in-Lower475Crc3.is (listed 3 _ _ (of_475 2 (lit< tt)) refl tt)

pub returns-in-Lower475Crc4 : goal.returns-in-Lower475Crc4
unfolding checks d_places
returns-in-Lower475Crc4 c = rw c.in-Lower475Crc4.is (listed 4 _ _ (of_475 3 (lit< tt)) refl tt)

pub returns-in-Lower515Crc1 : goal.returns-in-Lower515Crc1
unfolding checks d_places
returns-in-Lower515Crc1 c = rw c.in-Lower515Crc1.is (listed 5 _ _ (of_515 0 (lit< tt)) refl tt)

pub returns-in-Lower515Crc2 : goal.returns-in-Lower515Crc2
unfolding checks d_places
returns-in-Lower515Crc2 c = rw c.in-Lower515Crc2.is (listed 6 _ _ (of_515 1 (lit< tt)) refl tt)

pub returns-in-Lower515Crc3 : goal.returns-in-Lower515Crc3
unfolding checks d_places
returns-in-Lower515Crc3 c = rw c.in-Lower515Crc3.is (listed 7 _ _ (of_515 2 (lit< tt)) refl tt)

pub returns-in-Lower515Crc4 : goal.returns-in-Lower515Crc4
unfolding checks d_places
returns-in-Lower515Crc4 c = rw c.in-Lower515Crc4.is (listed 8 _ _ (of_515 3 (lit< tt)) refl tt)

pub returns-in-Lower590 : goal.returns-in-Lower590
unfolding checks d_places
returns-in-Lower590 c = rw c.in-Lower590.is (listed 9 _ _ of_590 refl tt)

pub returns-in-Amr670 : goal.returns-in-Amr670
unfolding checks d_places
returns-in-Amr670 c = rw c.in-Amr670.is (listed 10 _ _ of_670 refl tt)

pub returns-in-Amr740 : goal.returns-in-Amr740
unfolding checks d_places
returns-in-Amr740 c = rw c.in-Amr740.is (listed 11 _ _ of_740 refl tt)

pub returns-in-NoSpeech : goal.returns-in-NoSpeech
unfolding checks d_places
returns-in-NoSpeech c = rw c.in-NoSpeech.is (listed 12 _ _ of-silence refl tt)
