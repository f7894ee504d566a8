mod FewFlips
mod Recording
