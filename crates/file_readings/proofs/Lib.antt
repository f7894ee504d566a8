pub mod Decisions
pub mod ContentsExist
pub mod PicturesDecided
pub mod WholeDecided
pub mod AcceptedDecided
pub mod ReadingsExist
