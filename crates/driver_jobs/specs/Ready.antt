-- When a picture can be decoded.
use Rattle.cb_types.specs.AcceptedInfo.{IsAccepted}
use Rattle.cb_types.specs.declared.picture_info.PictureInfo.{PictureInfo}

-- A decoder of the profile that takes most, with as many references as there can be, takes the info.
abbrev pub IsReady : PictureInfo → Type 0
IsReady info = IsAccepted 1 16 info
