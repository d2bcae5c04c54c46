-- The classes of the style sheet, and the sheet.
use Rattle.std.specs.Prelude.{ℕ, List, codes}
use Rattle.tr_figures.specs.declared.styles.Style.{Style}
use Rattle.tr_figures.specs.declared.styles.Style.TheVariants.{Running, Pausing, Stopped, SignalStop, GroupStop, EventStop, ExitStop, Listening, Execing, Leaving, Dead, NoStop, Stopping, Ink, Dim, Name, Waiting, Report, Request, Send, Takes, Refused, Joins, Ground, Chip}

-- the name of a class
abbrev pub style_name : Style → List ℕ
style_name Running = codes "fr"
style_name Pausing = codes "pa"
style_name Stopped = codes "st"
style_name SignalStop = codes "ss"
style_name GroupStop = codes "gs"
style_name EventStop = codes "es"
style_name ExitStop = codes "xs"
style_name Listening = codes "li"
style_name Execing = codes "ex"
style_name Leaving = codes "le"
style_name Dead = codes "de"
style_name NoStop = codes "no"
style_name Stopping = codes "gp"
style_name Ink = codes "tx"
style_name Dim = codes "dm"
style_name Name = codes "nm"
style_name Waiting = codes "wt"
style_name Report = codes "rp"
style_name Request = codes "rq"
style_name Send = codes "sn"
style_name Takes = codes "tk"
style_name Refused = codes "rf"
style_name Joins = codes "jn"
style_name Ground = codes "bg"
style_name Chip = codes "ch"

-- the style sheet: for light screens, and then for dark ones
unfoldable pub style_sheet : List ℕ
style_sheet = codes "text[class]{font:12px monospace;stroke:none}text.dm{font-size:11px}.ch,.no{stroke:#888}line.rf{stroke-dasharray:4 3}line.dm{stroke-dasharray:1 3}.fr{fill:#d8f0d8}.pa{fill:#e3ecf4}.st{fill:#f6d6d6}.ss{fill:#fbe2bd}.gs{fill:#f0d4e6}.es{fill:#dcd6f6}.xs{fill:#e6decb}.li{fill:#cfecef}.ex{fill:#eceebd}.le{fill:#dcdcdc}.de{fill:#c6c6c6}.gp{fill:#fde3d2}.no,.bg,.ch{fill:#fff}.tx,.nm{fill:#111;stroke:#111}.dm{fill:#4a4a4a;stroke:#4a4a4a}.wt,.sn{fill:#7a3a00;stroke:#7a3a00}.rp,.tk{fill:#004a8a;stroke:#004a8a}.rq{fill:#3a4a5a;stroke:#3a4a5a}.rf{fill:#a0001c;stroke:#a0001c}.jn{fill:#6a1b9a;stroke:#6a1b9a}@media(prefers-color-scheme:dark){.fr{fill:#1f4a24}.pa{fill:#2a3947}.st{fill:#5a2626}.ss{fill:#5c4012}.gs{fill:#54264a}.es{fill:#38306a}.xs{fill:#4a4230}.li{fill:#164a50}.ex{fill:#4a4a16}.le{fill:#3c3c3c}.de{fill:#2c2c2c}.gp{fill:#5c3318}.no,.bg,.ch{fill:#15171c}.tx,.nm{fill:#f0f0f0;stroke:#f0f0f0}.dm{fill:#c4c4c4;stroke:#c4c4c4}.wt,.sn{fill:#ffc080;stroke:#ffc080}.rp,.tk{fill:#8cc8ff;stroke:#8cc8ff}.rq{fill:#b8c8d8;stroke:#b8c8d8}.rf{fill:#ff9ea6;stroke:#ff9ea6}.jn{fill:#dcb8ff;stroke:#dcb8ff}}"
