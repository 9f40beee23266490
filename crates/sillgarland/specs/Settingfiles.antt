-- The structs that the exports of settings files return: 01's numbers of each answer.
use Rattle.std.specs.Prelude.{ℕ, Result, Ok, Err}
use Rattle.refusals.specs.Numbers.{accepted}
use Rattle.refusals.specs.Faults.{number_of}
use Rattle.refusals.specs.declared.Fault.{Fault}
use Rattle.taggedfields.specs.declared.Span.{Span}
use Rattle.settings.specs.declared.Origin.{Origin}
use Rattle.settings.specs.declared.Origin.TheVariants as origin
use Rattle.settings.specs.declared.Setting.{Setting}
use Rattle.sillgarland.specs.declared.settingfiles.SillSetting.{SillSetting}
use Rattle.sillgarland.specs.declared.settingfiles.SillRewritten.{SillRewritten}
use Rattle.sillgarland.specs.declared.settingfiles.SillSaved.{SillSaved}
use Rattle.sillgarland.specs.declared.settingfiles.SillEdition.{SillEdition}

-- the file that has a tag: 0 the override, 1 the default
abbrev pub file_number : Origin → ℕ
file_number origin.Override = 0
file_number origin.Default = 1

abbrev pub setting_struct : Result Setting Fault → SillSetting
setting_struct (Ok a) = record { refusal = accepted; place = 0; file = file_number a.origin; start = a.contents.start; size = a.contents.size }
setting_struct (Err f) = record { refusal = number_of f.refusal; place = f.place; file = 0; start = 0; size = 0 }

abbrev pub rewritten_struct : Result ℕ Fault → SillRewritten
rewritten_struct (Ok written) = record { refusal = accepted; place = 0; written = written }
rewritten_struct (Err f) = record { refusal = number_of f.refusal; place = f.place; written = 0 }

abbrev pub kept_struct : Result ℕ Fault → SillSaved
kept_struct (Ok written) = record { refusal = accepted; place = 0; written = written }
kept_struct (Err f) = record { refusal = number_of f.refusal; place = f.place; written = 0 }

abbrev pub edition_struct : Result Span Fault → SillEdition
edition_struct (Ok a) = record { refusal = accepted; place = 0; start = a.start; size = a.size }
edition_struct (Err f) = record { refusal = number_of f.refusal; place = f.place; start = 0; size = 0 }
